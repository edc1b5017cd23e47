-- Walks over the clauses of a rule, record by record. That a walk says what the clauses as data say, whatever the bytes.
use Rattle.std.specs.Prelude.{◌≡◌, refl, Bool, true, false, cond, ◌&&◌, ◌||◌, not, List, [], ◌∷◌, ℕ, ◌+◌, ◌-◌, ◌<◌, ◌≤◌, get_or, length, drop, eqb}
use Rattle.std.proofs.Common.{◌∙◌, arith, ne_eqb}
use Rattle.std.proofs.Math.Bool.{or_assoc}
use Rattle.std.proofs.Math.Decide.{dec_lt}
use Rattle.numbers.specs.declared.Value.{Value}
use Rattle.numbers.specs.Values.{u16_at, value_at, bits_of}
use Rattle.records.specs.declared.Notation.TheVariants as notations
use Rattle.records.specs.Format.{part_length_at, operand_at}
use Rattle.table_format.specs.declared.Atom.{Atom}
use Rattle.table_format.specs.declared.Record.{Record}
use Rattle.table_format.specs.declared.Record.TheVariants.{Initial, Head, Clause, Atomic, Change, Cut, Unknown}
use Rattle.table_format.specs.Variables.{now_var}
use Rattle.table_format.specs.Format.{record_of, records, atom_of, kind_of}
use Rattle.table_format.specs.Table.{gather}
use Rattle.table_format.specs.RecordsAt.{records_end}
use Rattle.table_semantics.specs.Rules.{value_of, operand_value, holds_op, holds, clause_holds, all_hold}
use Rattle.table_rules.specs.At.{bytes_at, clauses_at}
use Rattle.table_rules.specs.Places.{clause_records, head_records, atom_records, head_cut, atom_cut, other_records, other_kind}

-- ---- clauses
unfoldable pub reads_clock : Atom → Bool
reads_clock a = eqb a.variable now_var || (eqb a.right.tag 1 && eqb (bits_of a.right.value.0) now_var)

-- the atom holds; where the clock is free, it may also read the clock
unfoldable pub passes : Bool → List Value → Atom → Bool
passes free v a = (free && reads_clock a) || holds v a

unfoldable pub some_passes : Bool → List Value → List Atom → Bool
some_passes free v [] = false
some_passes free v (a ∷ l) = passes free v a || some_passes free v l

unfoldable pub all_pass : Bool → List Value → List (List Atom) → Bool
all_pass free v [] = true
all_pass free v (c ∷ l) = some_passes free v c && all_pass free v l

some_hold : (v : List Value) (l : List Atom) → some_passes false v l ≡ clause_holds v l
unfolding some_passes clause_holds passes
some_hold v [] = refl
some_hold v (a ∷ l) = rw (some_hold v l)

pub all_hold_lem : (v : List Value) (l : List (List Atom)) → all_pass false v l ≡ all_hold v l
unfolding all_pass all_hold
all_hold_lem v [] = refl
all_hold_lem v (c ∷ l) = rw (some_hold v c, all_hold_lem v l)

-- the atom that a part x holds, by its fields as the code has read them
module _ (free : Bool) (v : List Value) (x : List ℕ) (o j t : ℕ) (y : Value) (n : ℕ) (eo : o ≡ get_or x 1 0) (ej : j ≡ u16_at x 2) (et : t ≡ get_or x 4 0)
    (ey : y ≡ value_at x 5) (en : n ≡ bits_of y.0) where
  fields : atom_of x ≡ record { op = o; variable = j; right = record { tag = t; value = y } }
  unfolding atom_of operand_at
  fields = rw (eo, ej, et, ey)

  pub atom_free : (free && (eqb j 0 || (eqb t 1 && eqb n 0))) ≡ true → true ≡ passes free v (atom_of x)
  unfolding passes reads_clock
  atom_free h = rw (fields, ← en, h)

  pub atom_holds_lem : (free && (eqb j 0 || (eqb t 1 && eqb n 0))) ≡ false → (a b : Value) → a ≡ value_of v j →
      b ≡ operand_value 0 v (record { tag = t; value = y }) → (r : Bool) → r ≡ holds_op o a b → r ≡ passes free v (atom_of x)
  unfolding passes reads_clock holds
  atom_holds_lem h a b ea eb r er = rw (fields, ← en, h, er, ea, eb)

-- ---- the walk over them, from the record after the head on: b is whether the last clause holds, as far as its atoms are read
-- k is the kind of a record: at a head the clauses are over, at a clause the one before may have failed
unfoldable pub is_decided : Bool → ℕ → Bool
is_decided b k = eqb k 33 || (eqb k 34 && not b)

unfoldable pub held_after : Bool → List Value → Bool → Record → Bool
held_after free v b (Initial x) = b
held_after free v b (Head h) = b
held_after free v b Clause = false
held_after free v b (Atomic a) = b || passes free v a
held_after free v b (Change u) = b
held_after free v b Cut = b
held_after free v b Unknown = b

pub held_other : (free : Bool) (v : List Value) (b : Bool) (x : Record) → (kind_of x ≡ 34 → ⊥) → (kind_of x ≡ 35 → ⊥) → b ≡ held_after free v b x
unfolding kind_of held_after
held_other free v b (Initial x) h k = refl
held_other free v b (Head x) h k = refl
held_other free v b Clause h k = absurd (h refl)
held_other free v b (Atomic x) h k = absurd (k refl)
held_other free v b (Change x) h k = refl
held_other free v b Cut h k = refl
held_other free v b Unknown h k = refl

unfoldable pub pass_from : Bool → List Value → Bool → List Record → Bool
pass_from free v b [] = b
pass_from free v b (x ∷ l) = let r = pass_from free v (held_after free v b x) l in cond (is_decided b (kind_of x)) b r

pass_is_data : (free : Bool) (v : List Value) (l : List Record) (b : Bool) →
    pass_from free v b l ≡ ((b || some_passes free v (gather l).atoms) && all_pass free v (gather l).clauses)
unfolding pass_from is_decided kind_of held_after gather some_passes all_pass
pass_is_data free v [] true = refl
pass_is_data free v [] false = refl
pass_is_data free v (Initial x ∷ l) b = pass_is_data free v l b
pass_is_data free v (Head h ∷ l) true = refl
pass_is_data free v (Head h ∷ l) false = refl
pass_is_data free v (Clause ∷ l) true = pass_is_data free v l false
pass_is_data free v (Clause ∷ l) false = refl
pass_is_data free v (Atomic a ∷ l) b = pass_is_data free v l (b || passes free v a) ∙ rw (or_assoc b (passes free v a) (some_passes free v (gather l).atoms))
pass_is_data free v (Change u ∷ l) b = pass_is_data free v l b
pass_is_data free v (Cut ∷ l) b = pass_is_data free v l b
pass_is_data free v (Unknown ∷ l) b = pass_is_data free v l b

pub pass_all : (free : Bool) (v : List Value) (s : List ℕ) (p : ℕ) → pass_from free v true (records (drop p s)) ≡ all_pass free v (clauses_at s p)
pass_all free v s p = pass_is_data free v (records (drop p s)) true

-- ---- the laws of its loop
pub pass_end : (free : Bool) (v : List Value) (b : Bool) (s : List ℕ) (p : ℕ) → length s ≤ p → b ≡ pass_from free v b (records (drop p s))
unfolding pass_from
pass_end free v b s p h = rw (records_end s p h)

module _ (free : Bool) (v : List Value) (b : Bool) (s : List ℕ) (p : ℕ) (h : p < length s) where
  pass_cut : records (drop p s) ≡ Cut ∷ [] → b ≡ pass_from free v b (records (drop p s))
  unfolding pass_from is_decided held_after kind_of
  pass_cut e = rw e

  pub pass_failed : get_or s p 0 ≡ 34 → b ≡ false → false ≡ pass_from free v b (records (drop p s))
  unfolding pass_from is_decided kind_of
  pass_failed k f = rw (clause_records s p k h, f)

  pub pass_clause : get_or s p 0 ≡ 34 → b ≡ true → pass_from free v false (records (drop (p + 1) s)) ≡ pass_from free v b (records (drop p s))
  unfolding pass_from is_decided held_after kind_of
  pass_clause k f = rw (clause_records s p k h, f)

  pub pass_atom_cut : get_or s p 0 ≡ 35 → length s - p < 9 → b ≡ pass_from free v b (records (drop p s))
  pass_atom_cut k l = pass_cut (atom_cut s p h k l)

  module _ (k : get_or s p 0 ≡ 35) (l : 9 ≤ length s - p) where
    pub pass_held : b ≡ true → pass_from free v b (records (drop (p + 9) s)) ≡ pass_from free v b (records (drop p s))
    unfolding pass_from is_decided held_after kind_of
    pass_held f = rw (atom_records s p k (omega arith), f)

    pub pass_atom : b ≡ false → (r : Bool) → r ≡ passes free v (atom_of (bytes_at s p 9)) →
        pass_from free v r (records (drop (p + 9) s)) ≡ pass_from free v b (records (drop p s))
    unfolding pass_from is_decided held_after kind_of
    pass_atom f r e = rw (atom_records s p k (omega arith), f, e)

  pub pass_head : get_or s p 0 ≡ 33 → b ≡ pass_from free v b (records (drop p s))
  unfolding pass_from is_decided kind_of
  pass_head k = go (dec_lt (length s - p) 11)
    where
      go : Dec (length s - p < 11) → b ≡ pass_from free v b (records (drop p s))
      go (yes l) = pass_cut (head_cut s p h k l)
      go (no l) = rw (head_records s p k (omega arith))

  pub pass_other : (get_or s p 0 ≡ 33 → ⊥) → (get_or s p 0 ≡ 34 → ⊥) → (get_or s p 0 ≡ 35 → ⊥) → (m : ℕ) → m ≡ part_length_at notations.Table s p →
      pass_from free v b (records (drop (p + m) s)) ≡ pass_from free v b (records (drop p s))
  unfolding pass_from is_decided
  pass_other i j k m e =
      let x = record_of (bytes_at s p m) in
      let o = held_other free v b x (other_kind s p m h e 34 j (omega arith)) (other_kind s p m h e 35 k (omega arith)) in
      rw (other_records s p m h e, ne_eqb (kind_of x) 33 (other_kind s p m h e 33 i (omega arith)), ne_eqb (kind_of x) 34 (other_kind s p m h e 34 j (omega arith)), ← o)
