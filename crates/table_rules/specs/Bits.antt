-- Laws of the variables as the code's walks read them: a list of their bits.
use Rattle.std.specs.Prelude.{◌≡◌, refl, Bool, true, false, cond, List, [], ◌∷◌, ℕ, zero, suc, ◌+◌, ◌<◌, ◌≤◌, ltb, get_or, set, length, replicate}
use Rattle.std.proofs.Common.{sym, ◌∙◌, ap, arith, ext_get_or, get_or-set_same, get_or-set_other, lt-ltb, le-ltb}
use Rattle.std.proofs.Math.Decide.{ℕ_discrete}
use Rattle.std.proofs.Math.ListN.{get_or-eq_default}
use Rattle.numbers.specs.declared.Value.{Value}
use Rattle.numbers.specs.Lists.{store}
use Rattle.numbers.specs.ListLaws.{length_store}
use Rattle.numbers.specs.Values.{value, natural, signed}
use Rattle.table_format.specs.Variables.{variables}
use Rattle.table_semantics.specs.Rules.{value_of}
use Rattle.table_semantics.specs.Runs.{values}

pub length_values : (v : List ℕ) → length (values v) ≡ length v
unfolding values
length_values [] = refl
length_values (n ∷ l) = ap suc (length_values l)

values_at : (v : List ℕ) (j : ℕ) → get_or (values v) j (natural 0) ≡ value (signed (get_or v j 0))
unfolding values
values_at [] j = refl
values_at (n ∷ l) zero = refl
values_at (n ∷ l) (suc j) = values_at l j

pub values_set_lem : (v : List ℕ) (j n : ℕ) → values (set v j n) ≡ set (values v) j (value (signed n))
unfolding values
values_set_lem [] j n = refl
values_set_lem (k ∷ l) zero n = refl
values_set_lem (k ∷ l) (suc j) n = ap (λ (r : List Value). value (signed k) ∷ r) (values_set_lem l j n)

pub values_store : (v : List ℕ) (j n : ℕ) → values (store variables v j n) ≡ store variables (values v) j (value (signed n))
values_store v j n = go (ltb j variables)
  where
    go : (b : Bool) → values (cond b (set v j n) v) ≡ cond b (set (values v) j (value (signed n))) (values v)
    go true = values_set_lem v j n
    go false = refl

pub values_zero : (n : ℕ) → values (replicate n 0) ≡ replicate n (natural 0)
unfolding values
values_zero zero = refl
values_zero (suc n) = ap (λ (r : List Value). natural 0 ∷ r) (values_zero n)

-- ---- loops that make bits of values, or values of bits: the n elements are passed by j, one a turn
abbrev pub Same : List Value → List ℕ → ℕ → Type 0
Same l v j = (k : ℕ) → k < j → get_or l k (natural 0) ≡ value (signed (get_or v k 0))

pub same_all : (l : List Value) (v : List ℕ) (n j : ℕ) → length l ≡ n → length v ≡ n → n ≤ j → Same l v j → l ≡ values v
same_all l v n j e f h s =
    ext_get_or (natural 0) l (values v) (e ∙ sym f ∙ sym (length_values v)) (λ k b. s k (omega (arith, rw e at b)) ∙ sym (values_at v k))

stored : {A : Type 0} (l : List A) (j : ℕ) (a d : A) (P : ℕ → A → Type 0) → j < length l → P j a → ((k : ℕ) → k < j → P k (get_or l k d)) →
    (k : ℕ) → k < j + 1 → P k (get_or (set l j a) k d)
stored l j a d P h p b k c = go (ℕ_discrete k j)
  where
    go : Dec (k ≡ j) → P k (get_or (set l j a) k d)
    go (yes e) = rw (e, get_or-set_same l j a d h) p
    go (no n) = rw (get_or-set_other l j k a d n) (b k (omega arith))

module _ (l : List Value) (v : List ℕ) (j n : ℕ) (h : j < n) (s : Same l v j) where
  pub same_bits : length v ≡ n → (k : ℕ) → value (signed k) ≡ get_or l j (natural 0) → Same l (set v j k) (j + 1)
  same_bits e k g = stored v j k 0 (λ i m. get_or l i (natural 0) ≡ value (signed m)) (rw e h) (sym g) s

  pub same_values : length l ≡ n → (x : Value) → x ≡ value (signed (get_or v j 0)) → Same (set l j x) v (j + 1)
  same_values e x g = stored l j x (natural 0) (λ i y. y ≡ value (signed (get_or v i 0))) (rw e h) g s

-- ---- one variable
module _ (v : List ℕ) (j : ℕ) where
  pub value_within : j < variables → value (signed (get_or v j 0)) ≡ value_of (values v) j
  value_within h = rw (lt-ltb j variables h) (sym (values_at v j))

  pub value_past : variables ≤ j → value (signed 0) ≡ value_of (values v) j
  value_past h = rw (le-ltb j variables h)

  pub value_short : length v ≤ j → value (signed 0) ≡ value_of (values v) j
  value_short h = go (ltb j variables)
    where
      go : (b : Bool) → value (signed 0) ≡ cond b (get_or (values v) j (natural 0)) (natural 0)
      go true = sym (values_at v j ∙ ap (λ (n : ℕ). value (signed n)) (get_or-eq_default v 0 h))
      go false = refl

  pub put_within : (n : ℕ) → j < variables → set v j n ≡ store variables v j n
  put_within n h = rw (lt-ltb j variables h)

  pub put_past : (n : ℕ) → variables ≤ j → v ≡ store variables v j n
  put_past n h = rw (le-ltb j variables h)

pub set_short : (v : List ℕ) (j n : ℕ) → length v ≤ j → set v j n ≡ v
set_short [] j n h = refl
set_short (k ∷ l) zero n h = absurd (omega arith)
set_short (k ∷ l) (suc j) n h = ap (λ (r : List ℕ). k ∷ r) (set_short l j n (omega arith))

pub put_short : (v : List ℕ) (j n : ℕ) → length v ≤ j → v ≡ store variables v j n
put_short v j n h = go (ltb j variables)
  where
    go : (b : Bool) → v ≡ cond b (set v j n) v
    go true = sym (set_short v j n h)
    go false = refl

pub put_length : (v w : List ℕ) (j n : ℕ) → w ≡ store variables v j n → length w ≡ length v
put_length v w j n e = ap length e ∙ length_store variables v j n
