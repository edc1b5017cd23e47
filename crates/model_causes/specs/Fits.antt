-- An atom or an assignment that fits has no fault.
use Rattle.std.specs.Prelude.{◌≡◌, Bool, true, false, ◌&&◌, not, ℕ, ◌<◌, ◌≤◌, eqb}
use Rattle.std.proofs.Common.{sym, ◌∙◌, arith, lt-ltb, le-ltb, ne_eqb}
use borrow.Author.Tests.{lt-leb, not-true, not-false}
use Rattle.records.specs.declared.Operand.{Operand}
use Rattle.records.specs.declared.Cause.TheVariants.{None}
use Rattle.model_format.specs.declared.Assignment.{Assignment}
use Rattle.model_format.specs.declared.Atom.{Atom}
use Rattle.model_format.specs.declared.Owned.{Owned}
use Rattle.model_format.specs.declared.Reading.{Reading}
use Rattle.model_format.specs.declared.Record.TheVariants.{AtomRecord, AssignmentRecord}
use Rattle.model_format.specs.declared.Timing.{Timing}
use Rattle.model_format.specs.declared.Transition.{Transition}
use Rattle.model_format.specs.Faultless.{both_true}
use Rattle.model_format.specs.Format.{rank_of, atom_rank, assignment_rank}
use Rattle.model_format.specs.Model.{max_each, input_owner, output_owner, local_at, input_tag, local_tag, output_tag}
use Rattle.model_format.specs.Reading.{in_order, names_item, is_owned_by, operand_tag, left_tag, target_tag, is_assigned, judged, last_transition, open_transition, cause_of}
use Rattle.model_faults.specs.Causes.{number_in}
use Rattle.model_causes.specs.Readings.{is_among}

-- what the tag and the number n name is there, and the thread t owns it
unfoldable pub item_fits : Timing → ℕ → ℕ → ℕ → Bool
item_fits m t tag n = names_item m tag n && is_owned_by m t tag n

unfoldable pub operand_fits : Timing → ℕ → Operand → Bool
operand_fits m t o = operand_tag o && item_fits m t o.tag (number_in o)

-- ---- the item of a tag and a number n, where there are `count` of its kind
module _ (m : Timing) (t tag n count : ℕ) where
  pub no_input : tag ≡ input_tag → count ≡ m.inputs → count ≤ n → false ≡ item_fits m t tag n
  unfolding item_fits names_item
  no_input k e l = rw (k, le-ltb n m.inputs (omega arith))

  pub no_local : tag ≡ local_tag → count ≡ m.locals → count ≤ n → false ≡ item_fits m t tag n
  unfolding item_fits names_item
  no_local k e l = rw (k, le-ltb n m.locals (omega arith))

  pub no_output : tag ≡ output_tag → count ≡ m.outputs → count ≤ n → false ≡ item_fits m t tag n
  unfolding item_fits names_item
  no_output k e l = rw (k, le-ltb n m.outputs (omega arith))

  pub an_input : tag ≡ input_tag → count ≡ m.inputs → n < count → (o : ℕ) → o ≡ input_owner m n → eqb o t ≡ item_fits m t tag n
  unfolding item_fits names_item is_owned_by
  an_input k e l o f = rw (k, lt-ltb n m.inputs (omega arith), f)

  pub a_local : tag ≡ local_tag → count ≡ m.locals → n < count → (x : Owned) → x ≡ local_at m n → eqb x.owner t ≡ item_fits m t tag n
  unfolding item_fits names_item is_owned_by
  a_local k e l x f = rw (k, lt-ltb n m.locals (omega arith), f)

  pub an_output : tag ≡ output_tag → count ≡ m.outputs → n < count → (o : ℕ) → o ≡ output_owner m n → eqb o t ≡ item_fits m t tag n
  unfolding item_fits names_item is_owned_by
  an_output k e l o f = rw (k, lt-ltb n m.outputs (omega arith), f)

-- a constant is of no thread
pub no_item : (m : Timing) (t tag n : ℕ) → (tag ≡ input_tag → ⊥) → (tag ≡ local_tag → ⊥) → (tag ≡ output_tag → ⊥) → true ≡ item_fits m t tag n
unfolding item_fits names_item is_owned_by
no_item m t tag n a b c = simp (ne_eqb tag input_tag a, ne_eqb tag local_tag b, ne_eqb tag output_tag c)

-- ---- an operand, where `tagged` tells that its tag is one
module _ (m : Timing) (t : ℕ) (o : Operand) (tagged : Bool) (e : tagged ≡ operand_tag o) where
  pub operand_not : not tagged ≡ true → false ≡ operand_fits m t o
  unfolding operand_fits
  operand_not h = rw (← e, not-true tagged h)

  pub operand_item : not tagged ≡ false → (r : Bool) (n : ℕ) → n ≡ number_in o → r ≡ item_fits m t o.tag n → r ≡ operand_fits m t o
  unfolding operand_fits
  operand_item h r n f g = rw (← e, not-false tagged h, ← f) g

-- a test that tells s was passed
pub passed : (b s : Bool) → b ≡ s → not b ≡ false → s ≡ true
passed b s e h = sym e ∙ not-false b h

-- an answer `false` claims nothing
pub no_claim : {X : Type 0} → false ≡ true → X
no_claim h = let z : ◌≡◌ {A = ℕ} 0 1 = cc in absurd (omega arith)

-- ---- no fault, from what the tests tell. v is the transition that the record belongs to.
module _ (a : Reading) (v : Transition) (e : v ≡ open_transition a) where
  pub atom_clear : (x : Atom) (number : ℕ) → number ≡ x.number → in_order a.last atom_rank ≡ true → v.atoms < max_each → x.op < 6 → left_tag x ≡ true → item_fits a.model.timing v.thread x.tag number ≡ true → operand_fits a.model.timing v.thread x.right ≡ true → cause_of a (AtomRecord x) ≡ None
  unfolding item_fits operand_fits cause_of judged rank_of
  atom_clear x number n order few op left item right =
      let i = both_true (names_item a.model.timing x.tag x.number) _ (rw n at item) in
      let r = both_true (operand_tag x.right) _ right in
      let o = both_true (names_item a.model.timing x.right.tag (number_in x.right)) _ r.1 in
      rw (← e, order, lt-leb max_each v.atoms few, lt-ltb x.op 6 op, left, i.0, i.1, r.0, o.0, o.1)

  pub assignment_clear : (x : Assignment) (number : ℕ) → number ≡ x.number → in_order a.last assignment_rank ≡ true → v.assignments < max_each → x.op < 3 → target_tag x ≡ true → item_fits a.model.timing v.thread x.tag number ≡ true → operand_fits a.model.timing v.thread x.first ≡ true → operand_fits a.model.timing v.thread x.second ≡ true → is_among a.model.behavior (last_transition a.model.behavior) v.assignments x ≡ false → cause_of a (AssignmentRecord x) ≡ None
  unfolding item_fits operand_fits cause_of judged rank_of is_assigned
  assignment_clear x number n order few op target item first second once =
      let i = both_true (names_item a.model.timing x.tag x.number) _ (rw n at item) in
      let f = both_true (operand_tag x.first) _ first in
      let p = both_true (names_item a.model.timing x.first.tag (number_in x.first)) _ f.1 in
      let s = both_true (operand_tag x.second) _ second in
      let q = both_true (names_item a.model.timing x.second.tag (number_in x.second)) _ s.1 in
      rw (← e, order, lt-leb max_each v.assignments few, lt-ltb x.op 3 op, target, i.0, i.1, f.0, p.0, p.1, s.0, q.0, q.1, once)
