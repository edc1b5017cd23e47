-- Arrays of a fixed room whose items a function leaves as they are, through stores.
use Rattle.std.specs.Prelude.{◌≡◌, refl, Bool, true, false, cond, List, [], ◌∷◌, map, ltb, get_or, set, length, replicate}
use Rattle.std.proofs.Common.{sym, ◌∙◌, ap, length-set}
use Prim.Native.Nat.{ℕ, zero, suc}
use Rattle.std.proofs.lemmas.List.{length-replicate}
use Rattle.std.proofs.Math.ListN.{get_or-map}
use Rattle.numbers.specs.Lists.{item, store, fold_below}

pub record Array {A : Type 0} (f : A → A) (room : ℕ) (l : List A) : Type 0 where
  pub size : length l ≡ room
  pub same : map f l ≡ l

module _ {A : Type 0} (f : A → A) where
  map_set : (l : List A) (i : ℕ) (a : A) → map f (set l i a) ≡ set (map f l) i (f a)
  map_set [] i a = refl
  map_set (b ∷ l) zero a = refl
  map_set (b ∷ l) (suc i) a = ap (λ (r : List A). f b ∷ r) (map_set l i a)

  map_replicate : (n : ℕ) (a : A) → map f (replicate n a) ≡ replicate n (f a)
  map_replicate zero a = refl
  map_replicate (suc n) a = ap (λ (r : List A). f a ∷ r) (map_replicate n a)

module _ {A : Type 0} (f : A → A) (room : ℕ) where
  pub stored : (l : List A) (i : ℕ) (a : A) → f a ≡ a → Array f room l → Array f room (store room l i a)
  stored l i a e p = go (ltb i room)
    where
      go : (b : Bool) → Array f room (cond b (set l i a) l)
      go true = record { size = length-set l i a ∙ p.size; same = map_set f l i a ∙ ap (λ (x : A). set (map f l) i x) e ∙ ap (λ (r : List A). set r i a) p.same }
      go false = p

  pub chosen : (b : Bool) (x y : List A) → Array f room x → Array f room y → Array f room (cond b x y)
  chosen true x y p q = p
  chosen false x y p q = q

  pub folded : (n : ℕ) (g : ℕ → List A → List A) (l : List A) → ((i : ℕ) (k : List A) → Array f room k → Array f room (g i k)) → Array f room l → Array f room (fold_below n g l)
  unfolding fold_below
  folded zero g l h p = p
  folded (suc n) g l h p = h n (fold_below n g l) (folded n g l h p)

  pub filled : (a : A) → f a ≡ a → Array f room (replicate room a)
  filled a e = record { size = length-replicate room a; same = map_replicate f room a ∙ ap (λ (x : A). replicate room x) e }

  pub item_same : (l : List A) (i : ℕ) (d : A) → f d ≡ d → Array f room l → f (item room l i d) ≡ item room l i d
  item_same l i d e p = go (ltb i room)
    where
      go : (b : Bool) → f (cond b (get_or l i d) d) ≡ cond b (get_or l i d) d
      go true = sym (get_or-map f l i d) ∙ ap (λ (r : List A). get_or r i (f d)) p.same ∙ ap (λ (x : A). get_or l i x) e
      go false = e
