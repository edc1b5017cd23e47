-- Arrays that are filled from the front: what holds of the items in use, and goes on to hold when one more is stored.
use Rattle.std.specs.Prelude.{◌≡◌, List, ℕ, ◌+◌, ◌*◌, ◌<◌, ◌≤◌, length, replicate}
use Rattle.std.proofs.Common.{sym, ◌∙◌, ap, subst, subst₂, arith}
use Rattle.std.proofs.Math.Decide.{ℕ_discrete}
use Rattle.std.proofs.lemmas.List.{length-replicate}
use Rattle.model_format.specs.Model.{max_transitions, max_each, max_times}
use Rattle.numbers.specs.Lists.{item, store}
use Rattle.numbers.specs.ListLaws.{length_store, item_store_same, item_store_other}

-- The first n items are in use, and each has P.
pub record Filled {A : Type 0} (room : ℕ) (d : A) (P : A → Type 0) (n : ℕ) (l : List A) : Type 0 where
  pub within : n ≤ room
  pub size : length l ≡ room
  pub each : (i : ℕ) → i < n → P (item room l i d)

pub filled_none : {A : Type 0} (room : ℕ) (d : A) (P : A → Type 0) → Filled room d P 0 (replicate room d)
filled_none room d P = record { within = omega arith; size = length-replicate room d; each = λ i h. absurd (omega arith) }

-- a weaker P
pub filled_as : {A : Type 0} (room : ℕ) (d : A) (P Q : A → Type 0) (n : ℕ) (l : List A) → ((x : A) → P x → Q x) → Filled room d P n l → Filled room d Q n l
filled_as room d P Q n l w f = record { within = f.within; size = f.size; each = λ i h. w (item room l i d) (f.each i h) }

module _ {A : Type 0} (room : ℕ) (d : A) (l : List A) (n : ℕ) (x : A) (size : length l ≡ room) (h : n < room) where
  -- every item after a store at n
  stored : (P : A → Type 0) (i : ℕ) → P x → ((i ≡ n → ⊥) → P (item room l i d)) → P (item room (store room l n x) i d)
  stored P i p q = go (ℕ_discrete i n)
    where
      go : Dec (i ≡ n) → P (item room (store room l n x) i d)
      go (yes e) = subst (λ (k : ℕ). P (item room (store room l n x) k d)) (sym e) (subst P (sym (item_store_same room l n x d h (omega arith))) p)
      go (no e) = subst P (sym (item_store_other room l n i x d e)) (q e)

module _ {A : Type 0} (room : ℕ) (d : A) (P : A → Type 0) (n : ℕ) (l : List A) (x : A) (f : Filled room d P n l) (p : P x) where
  -- one item more
  pub filled_more : n < room → Filled room d P (n + 1) (store room l n x)
  filled_more h = record {
    within = omega arith;
    size = length_store room l n x ∙ f.size;
    each = λ i k. stored room d l n x f.size h P i p (λ e. f.each i (omega arith));
  }

  -- another item in the place of one in use
  pub filled_again : (i : ℕ) → i < n → Filled room d P n (store room l i x)
  filled_again i h = record {
    within = f.within;
    size = length_store room l i x ∙ f.size;
    each = λ j k. stored room d l i x f.size (let w = f.within in omega arith) P j p (λ e. f.each j k);
  }

-- Rows of an array: row k begins at k * max_each, and its first count k items are in use. Each has P, and no two of a row are R.
pub record Rows {A : Type 0} (d : A) (P : A → Type 0) (R : A → A → Type 0) (rows : ℕ) (count : ℕ → ℕ) (l : List A) : Type 0 where
  pub size : length l ≡ max_times
  pub each : (k j : ℕ) → k < rows → j < count k → P (item max_times l (k * max_each + j) d)
  pub apart : (k i j : ℕ) → k < rows → i < j → j < count k → R (item max_times l (k * max_each + i) d) (item max_times l (k * max_each + j) d) → ⊥

module _ {A : Type 0} (d : A) (P : A → Type 0) (R : A → A → Type 0) where
  -- no row is in use
  pub rows_none : (n : ℕ) (count : ℕ → ℕ) (l : List A) → length l ≡ max_times → n ≡ 0 → Rows d P R n count l
  rows_none n count l s e = record { size = s; each = λ k j h. absurd (omega arith); apart = λ k i j h. absurd (omega arith) }

  module _ (rows : ℕ) (count more : ℕ → ℕ) (l : List A) (r : Rows d P R rows count l) where
    pub rows_as : ((k : ℕ) → k < rows → more k ≡ count k) → Rows d P R rows more l
    rows_as e = record {
      size = r.size;
      each = λ k j h g. let q = e k h in r.each k j h (omega arith);
      apart = λ k i j h g c. let q = e k h in r.apart k i j h g (omega arith);
    }

    -- an empty row more
    pub rows_next : ((k : ℕ) → k < rows → more k ≡ count k) → more rows ≡ 0 → Rows d P R (rows + 1) more l
    rows_next e z = record { size = r.size; each = each; apart = apart }
      where
        open_row : (k j : ℕ) → k < rows + 1 → j < more k → (k < rows) × (j < count k)
        open_row k j h g = go (ℕ_discrete k rows)
          where
            go : Dec (k ≡ rows) → (k < rows) × (j < count k)
            go (yes q) = let w = ap more q in absurd (omega arith)
            go (no q) = let b : k < rows = omega arith in let w = e k b in (b, omega arith)

        each : (k j : ℕ) → k < rows + 1 → j < more k → P (item max_times l (k * max_each + j) d)
        each k j h g = let o = open_row k j h g in r.each k j o.0 o.1

        apart : (k i j : ℕ) → k < rows + 1 → i < j → j < more k → R (item max_times l (k * max_each + i) d) (item max_times l (k * max_each + j) d) → ⊥
        apart k i j h g c = let o = open_row k j h c in r.apart k i j o.0 g o.1

    -- an item more, in row t
    module _ (t : ℕ) (x : A) (h : t < rows) (few : rows ≤ max_transitions) (room : count t < max_each) (full : (k : ℕ) → k < rows → count k ≤ max_each)
        (one : more t ≡ count t + 1) (rest : (k : ℕ) → (k ≡ t → ⊥) → more k ≡ count k) (p : P x)
        (new : (j : ℕ) → j < count t → R (item max_times l (t * max_each + j) d) x → ⊥) where
      abbrev place : ℕ
      place = t * max_each + count t

      abbrev after : List A
      after = store max_times l place x

      old : (k j : ℕ) → (k * max_each + j ≡ place → ⊥) → item max_times after (k * max_each + j) d ≡ item max_times l (k * max_each + j) d
      old k j e = item_store_other max_times l place (k * max_each + j) x d e

      each_more : (k j : ℕ) → k < rows → j < more k → P (item max_times after (k * max_each + j) d)
      each_more k j b g =
          stored max_times d l place x r.size (omega arith) P (k * max_each + j) p (λ e. r.each k j b (go e (ℕ_discrete k t)))
        where
          go : (k * max_each + j ≡ place → ⊥) → Dec (k ≡ t) → j < count k
          go e (yes q) = let u = ap count q in let v = ap more q in omega arith
          go e (no q) = let u = rest k q in omega arith

      apart_more : (k i j : ℕ) → k < rows → i < j → j < more k →
          R (item max_times after (k * max_each + i) d) (item max_times after (k * max_each + j) d) → ⊥
      apart_more k i j b g c w = go (ℕ_discrete k t) (ℕ_discrete j (count t))
        where
          go : Dec (k ≡ t) → Dec (j ≡ count t) → ⊥
          go (no q) z =
              let u = rest k q in
              let f = full k b in
              r.apart k i j b g (omega arith) (rw (old k i (λ e. omega arith), old k j (λ e. omega arith)) at w)
          go (yes q) (no z) =
              let u = ap count q in
              let v = ap more q in
              r.apart k i j b g (omega arith) (rw (old k i (λ e. omega arith), old k j (λ e. omega arith)) at w)
          go (yes q) (yes z) =
              let n : k * max_each + j ≡ t * max_each + count t = omega arith in
              new i (omega arith)
              (subst₂ R
              (old k i (λ e. omega arith) ∙ ap (λ (m : ℕ). item max_times l (m * max_each + i) d) q)
              (ap (λ (m : ℕ). item max_times after m d) n ∙ item_store_same max_times l place x d (omega arith) (omega arith))
              w)

      pub rows_more : Rows d P R rows more (store max_times l (t * max_each + count t) x)
      rows_more = record { size = length_store max_times l place x ∙ r.size; each = each_more; apart = apart_more }
