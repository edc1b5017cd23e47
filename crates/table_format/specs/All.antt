-- A fact for every element of a list, and its laws for lists that are made of lists.
use Rattle.std.specs.Prelude.{◌≡◌, refl, Bool, true, false, cond, List, [], ◌∷◌, ◌++◌, get_or, set, replicate, ltb}
use Rattle.std.proofs.Common.{ℕ, zero, suc, ◌<◌, arith}
use Rattle.numbers.specs.Lists.{item, store, fold_below, join_below, only}

-- every element of the list has P
abbrev pub All {ℓ} : {A : Type ℓ} → (A → Type 0) → List A → Type 0
All P [] = Unit {0}
All P (x ∷ l) = P x × All P l

-- the fact for the first element before those for the others; the last is tt
infixr 60 ◌also◌
abbrev pub ◌also◌ : {A B : Type 0} → A → B → A × B
a also b = (a, b)

-- one of two, by a test
pub one_cond {ℓ} : {A : Type ℓ} (P : A → Type 0) (b : Bool) (x y : A) → (b ≡ true → P x) → (b ≡ false → P y) → P (cond b x y)
one_cond P true x y h k = h refl
one_cond P false x y h k = k refl

-- what each step of a fold keeps
pub fold_keeps {ℓ} : {A : Type ℓ} (P : A → Type 0) (n : ℕ) (f : ℕ → A → A) (a : A) → P a → ((i : ℕ) (x : A) → i < n → P x → P (f i x)) → P (fold_below n f a)
unfolding fold_below
fold_keeps P zero f a h k = h
fold_keeps P (suc n) f a h k = k n (fold_below n f a) (omega arith) (fold_keeps P n f a h (λ i x l. k i x (omega arith)))

module _ {ℓ} {A : Type ℓ} (P : A → Type 0) where
  pub all_append : (l r : List A) → All P l → All P r → All P (l ++ r)
  all_append [] r h k = k
  all_append (x ∷ l) r h k = (h.0, all_append l r h.1 k)

  pub all_join : (n : ℕ) (f : ℕ → List A) → ((i : ℕ) → i < n → All P (f i)) → All P (join_below n f)
  unfolding join_below
  all_join zero f h = tt
  all_join (suc n) f h = all_append (join_below n f) (f n) (all_join n f (λ i l. h i (omega arith))) (h n (omega arith))

  all_cond : (b : Bool) (l r : List A) → (b ≡ true → All P l) → (b ≡ false → All P r) → All P (cond b l r)
  all_cond b l r h k = one_cond (All P) b l r h k

  -- the list, where the test passes
  pub all_when : (b : Bool) (l : List A) → (b ≡ true → All P l) → All P (cond b l [])
  all_when b l h = all_cond b l [] h (λ e. tt)

  pub all_only : (b : Bool) (a : A) → (b ≡ true → P a) → All P (only b a)
  all_only b a h = all_when b (a ∷ []) (λ e. (h e, tt))

  all_at : (l : List A) (i : ℕ) (d : A) → All P l → P d → P (get_or l i d)
  all_at [] i d h k = k
  all_at (x ∷ l) zero d h k = h.0
  all_at (x ∷ l) (suc i) d h k = all_at l i d h.1 k

  -- arrays
  pub all_replicate : (n : ℕ) (a : A) → P a → All P (replicate n a)
  all_replicate zero a h = tt
  all_replicate (suc n) a h = (h, all_replicate n a h)

  all_set : (l : List A) (i : ℕ) (a : A) → All P l → P a → All P (set l i a)
  all_set [] i a h k = tt
  all_set (x ∷ l) zero a h k = (k, h.1)
  all_set (x ∷ l) (suc i) a h k = (h.0, all_set l i a h.1 k)

  pub all_store : (room : ℕ) (l : List A) (i : ℕ) (a : A) → All P l → P a → All P (store room l i a)
  all_store room l i a h k = all_cond (ltb i room) (set l i a) l (λ e. all_set l i a h k) (λ e. h)

  pub all_item : (room : ℕ) (l : List A) (i : ℕ) (d : A) → All P l → P d → P (item room l i d)
  all_item room l i d h k = one_cond P (ltb i room) (get_or l i d) d (λ e. all_at l i d h k) (λ e. k)

  -- of an array that is blank
  pub blank_item : (room i : ℕ) (d : A) → P d → P (item room (replicate room d) i d)
  blank_item room i d h = all_item room (replicate room d) i d (all_replicate room d h) h

pub all_map {ℓ} : {A : Type ℓ} (P Q : A → Type 0) (l : List A) → ((a : A) → P a → Q a) → All P l → All Q l
all_map P Q [] f h = tt
all_map P Q (x ∷ l) f h = (f x h.0, all_map P Q l f h.1)
