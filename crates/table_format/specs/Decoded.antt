-- What a part holds: the fields that the code reads are those of the record, and the record is known by its kind.
use Rattle.std.specs.Prelude.{◌≡◌, Bool, cond, List, get_or, length, eqb, ltb}
use Rattle.std.proofs.Common.{refl, ap, sym, ◌∙◌, arith, true, false, ℕ, ◌<◌, ◌≤◌, ne_eqb, lt-ltb, le-ltb, eqb-true}
use borrow.Author.Tests.{eqb-false}
use Rattle.numbers.specs.declared.Value.{Value}
use Rattle.numbers.specs.Values.{u16_at, u32_at, value_at}
use Rattle.records.specs.declared.Notation.TheVariants as notations
use Rattle.records.specs.declared.Operand.{Operand}
use Rattle.records.specs.Format.{record_size, operand_at}
use Rattle.table_format.specs.declared.InitialValue.{InitialValue}
use Rattle.table_format.specs.declared.RuleHead.{RuleHead}
use Rattle.table_format.specs.declared.Atom.{Atom}
use Rattle.table_format.specs.declared.Update.{Update}
use Rattle.table_format.specs.declared.Record.{Record}
use Rattle.table_format.specs.declared.Record.TheVariants.{Initial, Head, Clause, Atomic, Change, Cut, Unknown}
use Rattle.table_format.specs.Format.{initial_of, head_of, atom_of, update_of, record_of_whole, record_of, kind_of}

-- ---- the fields of a part: numbers and operands as the code has read them
module _ (x : List ℕ) where
  pub initial_fields : (n : ℕ) (v : Value) → n ≡ u16_at x 1 → v ≡ value_at x 3 → record { variable = n; value = v } ≡ initial_of x
  unfolding initial_of
  initial_fields n v e f = rw (e, f)

  pub head_fields_lem : (k i l h : ℕ) → k ≡ get_or x 1 0 → i ≡ get_or x 2 0 → l ≡ u32_at x 3 → h ≡ u32_at x 7 →
      record { kind = k; id = i; low = l; high = h } ≡ head_of x
  unfolding head_of
  head_fields_lem k i l h a b e f = rw (a, b, e, f)

  pub atom_fields_lem : (o n : ℕ) (y : Operand) → o ≡ get_or x 1 0 → n ≡ u16_at x 2 → y ≡ operand_at x 4 →
      record { op = o; variable = n; right = y } ≡ atom_of x
  unfolding atom_of
  atom_fields_lem o n y a b e = rw (a, b, e)

  pub update_fields : (n w t o : ℕ) (y z : Operand) → n ≡ u16_at x 1 → w ≡ get_or x 3 0 → t ≡ u16_at x 4 → o ≡ get_or x 6 0 →
      y ≡ operand_at x 7 → z ≡ operand_at x 12 →
      record { condition = n; wanted = w; target = t; op = o; first = y; second = z } ≡ update_of x
  unfolding update_of
  update_fields n w t o y z a b e f g h = rw (a, b, e, f, g, h)

  -- ---- the record: k is the first byte, m the size of its kind
  module _ (k m : ℕ) (f : k ≡ get_or x 0 0) (b : m ≡ record_size notations.Table k) where
    pub record_unknown : m ≡ 0 → Unknown ≡ record_of x
    unfolding record_of
    record_unknown z = rw (← f, ← b, z)

    pub record_cut : (m ≡ 0 → ⊥) → length x < m → Cut ≡ record_of x
    unfolding record_of
    record_cut z l = rw (← f, ← b, ne_eqb m 0 z, lt-ltb _ m l)

    module _ (z : m ≡ 0 → ⊥) (l : m ≤ length x) where
      pub record_whole : record_of_whole k x ≡ record_of x
      unfolding record_of
      record_whole = rw (← f, ← b, ne_eqb m 0 z, le-ltb _ m l)

      pub record_initial : (y : InitialValue) → k ≡ 32 → y ≡ initial_of x → Initial y ≡ record_of x
      record_initial y h e = rw (e, ← record_whole, h)

      pub record_head : (y : RuleHead) → k ≡ 33 → y ≡ head_of x → Head y ≡ record_of x
      record_head y h e = rw (e, ← record_whole, h)

      pub record_clause : k ≡ 34 → Clause ≡ record_of x
      record_clause h = rw (← record_whole, h)

      pub record_atom : (y : Atom) → k ≡ 35 → y ≡ atom_of x → Atomic y ≡ record_of x
      record_atom y h e = rw (e, ← record_whole, h)

      pub record_update : (y : Update) → (k ≡ 32 → ⊥) → (k ≡ 33 → ⊥) → (k ≡ 34 → ⊥) → (k ≡ 35 → ⊥) → y ≡ update_of x → Change y ≡ record_of x
      record_update y h1 h2 h3 h4 e = rw (e, ← record_whole, ne_eqb k 32 h1, ne_eqb k 33 h2, ne_eqb k 34 h3, ne_eqb k 35 h4)

size_kind : (k : ℕ) (x : List ℕ) → (record_size notations.Table k ≡ 0 → ⊥) → kind_of (record_of_whole k x) ≡ k
unfolding kind_of record_size
size_kind k x = go (eqb k 32) (eqb k 33) (eqb k 34) (eqb k 35) (eqb k 36) (eqb-true k 32) (eqb-true k 33) (eqb-true k 34) (eqb-true k 35) (eqb-true k 36)
  where
    go : (a b c d e : Bool) → (a ≡ true → k ≡ 32) → (b ≡ true → k ≡ 33) → (c ≡ true → k ≡ 34) → (d ≡ true → k ≡ 35) → (e ≡ true → k ≡ 36) →
        (◌≡◌ {A = ℕ} (cond a 7 (cond b 11 (cond c 1 (cond d 9 (cond e 17 0))))) 0 → ⊥) →
        kind_of (cond a (Initial (initial_of x)) (cond b (Head (head_of x)) (cond c Clause (cond d (Atomic (atom_of x)) (Change (update_of x)))))) ≡ k
    go true b c d e f g h i j z = sym (f refl)
    go false true c d e f g h i j z = sym (g refl)
    go false false true d e f g h i j z = sym (h refl)
    go false false false true e f g h i j z = sym (i refl)
    go false false false false true f g h i j z = sym (j refl)
    go false false false false false f g h i j z = absurd (z refl)

module _ (x : List ℕ) where
  module _ (k m : ℕ) (f : k ≡ get_or x 0 0) (b : m ≡ record_size notations.Table k) where
    pub kind_unknown : m ≡ 0 → 0 ≡ kind_of (record_of x)
    unfolding kind_of
    kind_unknown z = rw (← record_unknown x k m f b z)

    pub kind_cut : (m ≡ 0 → ⊥) → length x < m → 0 ≡ kind_of (record_of x)
    unfolding kind_of
    kind_cut z l = rw (← record_cut x k m f b z l)

    pub kind_whole : (m ≡ 0 → ⊥) → m ≤ length x → k ≡ kind_of (record_of x)
    kind_whole z l = rw (← record_whole x k m f b z l) (sym (size_kind k x (λ e. z (b ∙ e))))

  -- what a part of a known kind holds
  by_kind : (k : ℕ) → k ≡ kind_of (record_of x) → 0 < k → record_of x ≡ record_of_whole k x
  unfolding record_of
  by_kind k e h = go (eqb m 0) (ltb (length x) m) refl e
    where
      m : ℕ
      m = record_size notations.Table (get_or x 0 0)

      r : Record
      r = record_of_whole (get_or x 0 0) x

      none : k ≡ 0 → ⊥
      none z = omega arith

      go : (a b : Bool) → eqb m 0 ≡ a → k ≡ kind_of (cond a Unknown (cond b Cut r)) → cond a Unknown (cond b Cut r) ≡ record_of_whole k x
      go true b f g = absurd (none (zero_kind g))
        where
          zero_kind : k ≡ kind_of Unknown → k ≡ 0
          zero_kind q = unfold kind_of in q
      go false true f g = absurd (none (zero_kind g))
        where
          zero_kind : k ≡ kind_of Cut → k ≡ 0
          zero_kind q = unfold kind_of in q
      go false false f g = ap (λ (j : ℕ). record_of_whole j x) (sym (g ∙ size_kind (get_or x 0 0) x (eqb-false m 0 f)))

  module _ (k : ℕ) (e : k ≡ kind_of (record_of x)) where
    pub is_initial : k ≡ 32 → (y : InitialValue) → y ≡ initial_of x → record_of x ≡ Initial y
    is_initial f y g = by_kind 32 (sym f ∙ e) (omega arith) ∙ ap Initial (sym g)

    pub is_head_lem : k ≡ 33 → (y : RuleHead) → y ≡ head_of x → record_of x ≡ Head y
    is_head_lem f y g = by_kind 33 (sym f ∙ e) (omega arith) ∙ ap Head (sym g)

    pub is_clause : k ≡ 34 → record_of x ≡ Clause
    is_clause f = by_kind 34 (sym f ∙ e) (omega arith)

    pub is_atom : k ≡ 35 → record_of x ≡ Atomic (atom_of x)
    is_atom f = by_kind 35 (sym f ∙ e) (omega arith)

    pub is_update : k ≡ 36 → record_of x ≡ Change (update_of x)
    is_update f = by_kind 36 (sym f ∙ e) (omega arith)
