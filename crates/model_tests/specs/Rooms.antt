-- Laws of loops that stop at an array's room, where an item past it changes nothing.
use Rattle.std.specs.Prelude.{◌≡◌, refl, Bool, true, false, cond, ℕ, zero, suc, ◌<◌, ◌≤◌, min}
use Rattle.std.proofs.Common.{sym, arith}
use Rattle.std.proofs.Math.Bool.{or-false}
use Rattle.std.proofs.Math.Decide.{dec_lt}
use Rattle.numbers.specs.Lists.{any_below, fold_below}
use Rattle.numbers.specs.ListLaws.{any_suc, fold_suc}

pub any_room : (n room : ℕ) (p : ℕ → Bool) → ((i : ℕ) → room ≤ i → p i ≡ false) → any_below (min n room) p ≡ any_below n p
any_room zero room p h = let z : min 0 room ≡ 0 = omega arith in rw z
any_room (suc n) room p h = go (any_room n room p h) (dec_lt n room)
  where
    go : any_below (min n room) p ≡ any_below n p → Dec (n < room) → any_below (min (suc n) room) p ≡ any_below (suc n) p
    go ih (yes l) = let z : min (suc n) room ≡ suc n = omega arith in rw z
    go ih (no l) =
        let z : min (suc n) room ≡ min n room = omega arith in
        rw (z, ih, any_suc n p, h n (omega arith)) (sym (or-false (any_below n p)))

pub fold_room : {A : Type 0} (n room : ℕ) (f : ℕ → A → A) (a : A) → ((i : ℕ) (x : A) → room ≤ i → f i x ≡ x) → fold_below (min n room) f a ≡ fold_below n f a
fold_room zero room f a h = let z : min 0 room ≡ 0 = omega arith in rw z
fold_room (suc n) room f a h = go (fold_room n room f a h) (dec_lt n room)
  where
    go : fold_below (min n room) f a ≡ fold_below n f a → Dec (n < room) → fold_below (min (suc n) room) f a ≡ fold_below (suc n) f a
    go ih (yes l) = let z : min (suc n) room ≡ suc n = omega arith in rw z
    go ih (no l) =
        let z : min (suc n) room ≡ min n room = omega arith in
        rw (z, ih, fold_suc n f a) (sym (h n (fold_below n f a) (omega arith)))

-- a loop that has come to the place where it stops
pub any_end : (count room n i : ℕ) (p : ℕ → Bool) → n ≡ min count room → i ≤ n → n ≤ i → ((k : ℕ) → room ≤ k → p k ≡ false) → any_below i p ≡ any_below count p
any_end count room n i p e h k past = let z : i ≡ min count room = omega arith in rw z (any_room count room p past)

pub fold_end : {A : Type 0} (count room n i : ℕ) (f : ℕ → A → A) (a : A) → n ≡ min count room → i ≤ n → n ≤ i → ((k : ℕ) (x : A) → room ≤ k → f k x ≡ x) →
    fold_below i f a ≡ fold_below count f a
fold_end count room n i f a e h k past = let z : i ≡ min count room = omega arith in rw z (fold_room count room f a past)

pub same_choice : {A : Type 0} (b : Bool) (x : A) → cond b x x ≡ x
same_choice true x = refl
same_choice false x = refl
