-- Laws of arrays with a room, and of loops over the numbers below n.
use Rattle.std.specs.Prelude.{◌≡◌, Bool, true, false, cond, ◌&&◌, ◌||◌, ltb, set, length, replicate}
use Rattle.std.proofs.Math.Path.{refl, sym, ap}
use Rattle.std.proofs.Common.{◌∙◌, add-zero, add-one, length-set, get_or-set_same, get_or-set_other, ext_get_or, lt-ltb, le-ltb, ltb-true}
use mathlib.Core.List.{List, [], ◌∷◌, ◌++◌}
use Prim.Native.Nat.{ℕ, zero, suc, ◌+◌, ◌<◌, ◌≤◌}
use native.Mathlib.Omega.{arith}
use Rattle.std.proofs.Math.Decide.{dec_lt, ℕ_discrete}
use Rattle.std.proofs.Math.ListN.{get_or, length-append, get_or-append}
use Rattle.std.proofs.lemmas.List.{length-replicate, get_or-replicate}
use Rattle.std.proofs.Math.Seq.{get_or_at}
use Rattle.std.proofs.lemmas.List.Edits.{sets}
use Rattle.numbers.specs.Lists.{item, store, any_below, all_below, fold_below, first_below, join_below, list_below}

-- ---- arrays
module _ {ℓ} {A : Type ℓ} (room : ℕ) (l : List A) where
  pub item_within : (i : ℕ) (d : A) → i < room → item room l i d ≡ get_or l i d
  item_within i d h = rw (lt-ltb i room h)

  pub item_past : (i : ℕ) (d : A) → room ≤ i → item room l i d ≡ d
  item_past i d h = rw (le-ltb i room h)

  pub store_past : (i : ℕ) (a : A) → room ≤ i → store room l i a ≡ l
  store_past i a h = rw (le-ltb i room h)

  pub length_store : (i : ℕ) (a : A) → length (store room l i a) ≡ length l
  length_store i a = go (ltb i room)
    where
      go : (b : Bool) → length (cond b (set l i a) l) ≡ length l
      go true = length-set l i a
      go false = refl

  pub item_store_same : (i : ℕ) (a d : A) → i < room → i < length l → item room (store room l i a) i d ≡ a
  item_store_same i a d h k = rw (lt-ltb i room h) (get_or-set_same l i a d k)

  pub item_store_other : (i j : ℕ) (a d : A) → (j ≡ i → ⊥) → item room (store room l i a) j d ≡ item room l j d
  item_store_other i j a d n = go (ltb i room) (ltb j room)
    where
      go : (b c : Bool) → cond c (get_or (cond b (set l i a) l) j d) d ≡ cond c (get_or l j d) d
      go true true = get_or-set_other l i j a d n
      go true false = refl
      go false true = refl
      go false false = refl

-- ---- one number more, at the i + 1 of code
pub any_next : (i : ℕ) (p : ℕ → Bool) → any_below (i + 1) p ≡ (any_below i p || p i)
unfolding any_below
any_next i p = rw (add-one i)

pub all_next : (i : ℕ) (p : ℕ → Bool) → all_below (i + 1) p ≡ (all_below i p && p i)
unfolding all_below
all_next i p = rw (add-one i)

pub fold_next {ℓ} : {A : Type ℓ} (i : ℕ) (f : ℕ → A → A) (a : A) → fold_below (i + 1) f a ≡ f i (fold_below i f a)
unfolding fold_below
fold_next i f a = rw (add-one i)

pub join_next {ℓ} : {A : Type ℓ} (i : ℕ) (f : ℕ → List A) → join_below (i + 1) f ≡ join_below i f ++ f i
unfolding join_below
join_next i f = rw (add-one i)

-- ---- and at suc
pub any_suc : (n : ℕ) (p : ℕ → Bool) → any_below (suc n) p ≡ (any_below n p || p n)
unfolding any_below
any_suc n p = refl

pub fold_suc {ℓ} : {A : Type ℓ} (n : ℕ) (f : ℕ → A → A) (a : A) → fold_below (suc n) f a ≡ f n (fold_below n f a)
unfolding fold_below
fold_suc n f a = refl

pub join_suc {ℓ} : {A : Type ℓ} (n : ℕ) (f : ℕ → List A) → join_below (suc n) f ≡ join_below n f ++ f n
unfolding join_below
join_suc n f = refl

-- ---- and with nothing below
pub any_zero : (p : ℕ → Bool) → any_below 0 p ≡ false
unfolding any_below
any_zero p = refl

pub all_zero : (p : ℕ → Bool) → all_below 0 p ≡ true
unfolding all_below
all_zero p = refl

pub fold_zero {ℓ} : {A : Type ℓ} (f : ℕ → A → A) (a : A) → fold_below 0 f a ≡ a
unfolding fold_below
fold_zero f a = refl

pub join_zero {ℓ} : {A : Type ℓ} (f : ℕ → List A) → join_below 0 f ≡ []
unfolding join_below
join_zero f = refl

-- ---- some number, every number
or_true : (b : Bool) → (b || true) ≡ true
or_true true = refl
or_true false = refl

and_false : (b : Bool) → (b && false) ≡ false
and_false true = refl
and_false false = refl

pub any_none : (n : ℕ) (p : ℕ → Bool) → ((k : ℕ) → k < n → p k ≡ false) → any_below n p ≡ false
unfolding any_below
any_none zero p h = refl
any_none (suc n) p h = rw (any_none n p (λ k l. h k (omega arith)), h n (omega arith))

pub any_some : (n : ℕ) (p : ℕ → Bool) (k : ℕ) → k < n → p k ≡ true → any_below n p ≡ true
unfolding any_below or_true
any_some zero p k l e = absurd (omega arith)
any_some (suc n) p k l e = go (λ b. any_some n p k b e) (dec_lt k n)
  where
    go : (k < n → any_below n p ≡ true) → Dec (k < n) → (any_below n p || p n) ≡ true
    go ih (yes b) = rw (ih b)
    go ih (no b) = let q : k ≡ n = omega arith in rw (ap p (sym q) ∙ e, or_true (any_below n p))

-- of numbers below n none passes p
pub none_below : (n : ℕ) (p : ℕ → Bool) → any_below n p ≡ false → (k : ℕ) → k < n → p k ≡ false
none_below n p e k l = go (p k) refl
  where
    go : (b : Bool) → p k ≡ b → b ≡ false
    go true q = sym (any_some n p k l q) ∙ e
    go false q = refl

pub all_not : (n : ℕ) (p : ℕ → Bool) (k : ℕ) → k < n → p k ≡ false → all_below n p ≡ false
unfolding all_below and_false
all_not zero p k l e = absurd (omega arith)
all_not (suc n) p k l e = go (λ b. all_not n p k b e) (dec_lt k n)
  where
    go : (k < n → all_below n p ≡ false) → Dec (k < n) → (all_below n p && p n) ≡ false
    go ih (yes b) = rw (ih b)
    go ih (no b) = let q : k ≡ n = omega arith in rw (ap p (sym q) ∙ e, and_false (all_below n p))

-- ---- the first number
pub first_none : (n : ℕ) (p : ℕ → Bool) → ((k : ℕ) → k < n → p k ≡ false) → first_below n p ≡ n
unfolding first_below
first_none zero p h = refl
first_none (suc n) p h = rw (first_none n p (λ k l. h k (omega arith)), le-ltb n n (omega arith), h n (omega arith))

pub first_found : (n : ℕ) (p : ℕ → Bool) (k : ℕ) → k < n → p k ≡ true → ((j : ℕ) → j < k → p j ≡ false) → first_below n p ≡ k
unfolding first_below
first_found zero p k l e h = absurd (omega arith)
first_found (suc n) p k l e h = go (λ b. first_found n p k b e h) (dec_lt k n)
  where
    go : (k < n → first_below n p ≡ k) → Dec (k < n) → cond (ltb (first_below n p) n) (first_below n p) (cond (p n) n (suc n)) ≡ k
    go ih (yes b) = rw (ih b, lt-ltb k n b)
    go ih (no b) =
        let q : k ≡ n = omega arith in
        let z : first_below n p ≡ n = first_none n p (λ j i. h j (omega arith)) in
        rw (z, le-ltb n n (omega arith), ap p (sym q) ∙ e) (sym q)

pub first_within : (n : ℕ) (p : ℕ → Bool) → first_below n p ≤ n
unfolding first_below
first_within zero p = omega arith
first_within (suc n) p = go (ltb (first_below n p) n) (p n) refl
  where
    go : (b c : Bool) → ltb (first_below n p) n ≡ b → cond b (first_below n p) (cond c n (suc n)) ≤ suc n
    go true c e = let l = ltb-true (first_below n p) n e in omega arith
    go false true e = omega arith
    go false false e = omega arith

-- ---- lists of n elements
module _ {ℓ} {A : Type ℓ} where
  pub length_list_below : (n : ℕ) (f : ℕ → A) → length (list_below n f) ≡ n
  unfolding list_below
  length_list_below zero f = refl
  length_list_below (suc n) f = length-append (list_below n f) (f n ∷ []) ∙ rw (length_list_below n f) (omega arith)

  pub list_below_at : (n : ℕ) (f : ℕ → A) (i : ℕ) (d : A) → i < n → get_or (list_below n f) i d ≡ f i
  unfolding list_below
  list_below_at zero f i d h = absurd (omega arith)
  list_below_at (suc n) f i d h = go (list_below_at n f i d) (dec_lt i n)
    where
      go : (i < n → get_or (list_below n f) i d ≡ f i) → Dec (i < n) → get_or (list_below n f ++ (f n ∷ [])) i d ≡ f i
      go ih (yes l) = get_or-append (list_below n f) (f n ∷ []) d i (omega (arith, length_list_below n f)) ∙ ih l
      go ih (no l) =
          let e : i ≡ n = omega arith in
          get_or_at (list_below n f) (f n) [] d i (length_list_below n f ∙ sym e) ∙ ap f (sym e)

  -- as an array whose room they fill
  pub item_below : (n : ℕ) (f : ℕ → A) (i : ℕ) (d : A) → item n (list_below n f) i d ≡ cond (ltb i n) (f i) d
  item_below n f i d = go (dec_lt i n)
    where
      go : Dec (i < n) → item n (list_below n f) i d ≡ cond (ltb i n) (f i) d
      go (yes l) = rw (lt-ltb i n l) (list_below_at n f i d l)
      go (no l) = rw (le-ltb i n (omega arith))

  pub list_below_is : (n : ℕ) (f : ℕ → A) (l : List A) (d : A) → length l ≡ n → ((i : ℕ) → i < n → f i ≡ get_or l i d) → list_below n f ≡ l
  list_below_is n f l d e h =
      ext_get_or d (list_below n f) l (length_list_below n f ∙ sym e)
      (λ i b. let k : i < n = omega (arith, length_list_below n f) in list_below_at n f i d k ∙ h i k)

  pub list_below_same : (n : ℕ) (f g : ℕ → A) → ((i : ℕ) → i < n → f i ≡ g i) → list_below n f ≡ list_below n g
  unfolding list_below
  list_below_same zero f g h = refl
  list_below_same (suc n) f g h = rw (list_below_same n f g (λ i l. h i (omega arith)), h n (omega arith))

  -- all elements the same
  pub list_below_replicate : (n : ℕ) (f : ℕ → A) (a : A) → ((i : ℕ) → i < n → f i ≡ a) → list_below n f ≡ replicate n a
  list_below_replicate n f a h = list_below_is n f (replicate n a) a (length-replicate n a) (λ i l. h i l ∙ sym (get_or-replicate n i a a l))

  -- g is f but for a at i
  pub list_below_store : (n : ℕ) (f g : ℕ → A) (i : ℕ) (a : A) → (i < n → g i ≡ a) → ((j : ℕ) → j < n → (j ≡ i → ⊥) → g j ≡ f j) →
      list_below n g ≡ store n (list_below n f) i a
  list_below_store n f g i a same other =
      list_below_is n g (store n (list_below n f) i a) a (length_store n (list_below n f) i a ∙ length_list_below n f)
      (λ j l. at j l (ℕ_discrete j i) ∙ item_within n (store n (list_below n f) i a) j a l)
    where
      at : (j : ℕ) → j < n → Dec (j ≡ i) → g j ≡ item n (store n (list_below n f) i a) j a
      at j l (yes e) =
          let k : i < n = omega arith in
          rw e (same k ∙ sym (item_store_same n (list_below n f) i a a k (omega (arith, length_list_below n f))))
      at j l (no e) =
          other j l e ∙ sym (item_store_other n (list_below n f) i j a a e ∙ item_within n (list_below n f) j a l ∙ list_below_at n f j a l)

-- ---- elements vs stored one after the other from p on
module _ {ℓ} {A : Type ℓ} where
  pub sets_before : (vs l : List A) (p i : ℕ) (d : A) → i < p → get_or (sets l p vs) i d ≡ get_or l i d
  sets_before [] l p i d h = refl
  sets_before (v ∷ vs) l p i d h = sets_before vs (set l p v) (suc p) i d (omega arith) ∙ get_or-set_other l p i v d (λ e. absurd (omega arith))

  pub sets_after : (vs l : List A) (p i : ℕ) (d : A) → p + length vs ≤ i → get_or (sets l p vs) i d ≡ get_or l i d
  sets_after [] l p i d h = refl
  sets_after (v ∷ vs) l p i d h = sets_after vs (set l p v) (suc p) i d (omega arith) ∙ get_or-set_other l p i v d (λ e. absurd (omega arith))

  pub sets_first : (v : A) (vs l : List A) (p : ℕ) (d : A) → p < length l → get_or (sets l p (v ∷ vs)) p d ≡ v
  sets_first v vs l p d h = sets_before vs (set l p v) (suc p) p d (omega arith) ∙ get_or-set_same l p v d h

  pub sets_at : (vs l : List A) (p k : ℕ) (d : A) → k < length vs → p + k < length l → get_or (sets l p vs) (p + k) d ≡ get_or vs k d
  sets_at [] l p k d h b = absurd (omega arith)
  sets_at (v ∷ vs) l p zero d h b = rw (add-zero p) (sets_first v vs l p d (omega arith))
  sets_at (v ∷ vs) l p (suc k) d h b =
      let e : p + suc k ≡ suc p + k = omega arith in
      rw e (sets_at vs (set l p v) (suc p) k d (omega arith) (rw (length-set l p v) (omega arith)))
