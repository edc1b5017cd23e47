-- Arrays of a fixed room as lists, and tests, sums and lists over the numbers below n.
use Rattle.std.specs.Prelude.{Bool, true, false, cond, ◌&&◌, ◌||◌, List, [], ◌∷◌, ◌++◌, ℕ, zero, suc, get_or, set, ltb}

-- element i of an array with the given room; past the room, d
abbrev pub item {ℓ} : {A : Type ℓ} → ℕ → List A → ℕ → A → A
item room l i d = cond (ltb i room) (get_or l i d) d

-- the array with a at i; past the room, the array as it was
abbrev pub store {ℓ} : {A : Type ℓ} → ℕ → List A → ℕ → A → List A
store room l i a = cond (ltb i room) (set l i a) l

-- some number below n passes p
unfoldable pub any_below : ℕ → (ℕ → Bool) → Bool
any_below zero p = false
any_below (suc n) p = any_below n p || p n

-- every number below n passes p
unfoldable pub all_below : ℕ → (ℕ → Bool) → Bool
all_below zero p = true
all_below (suc n) p = all_below n p && p n

-- f 0, f 1, .. one after the other, on a
unfoldable pub fold_below {ℓ} : {A : Type ℓ} → ℕ → (ℕ → A → A) → A → A
fold_below zero f a = a
fold_below (suc n) f a = f n (fold_below n f a)

-- the least number below n that passes p, or n where none does
unfoldable pub first_below : ℕ → (ℕ → Bool) → ℕ
first_below zero p = zero
first_below (suc n) p = let k = first_below n p in cond (ltb k n) k (cond (p n) n (suc n))

-- the lists f 0, f 1, .. joined
unfoldable pub join_below {ℓ} : {A : Type ℓ} → ℕ → (ℕ → List A) → List A
join_below zero f = []
join_below (suc n) f = join_below n f ++ f n

-- the list f 0, f 1, .. of n elements
unfoldable pub list_below {ℓ} : {A : Type ℓ} → ℕ → (ℕ → A) → List A
list_below zero f = []
list_below (suc n) f = list_below n f ++ (f n ∷ [])

-- the list of one element where the test passes
abbrev pub only {ℓ} : {A : Type ℓ} → Bool → A → List A
only b a = cond b (a ∷ []) []
