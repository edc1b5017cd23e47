-- A whole model: each field of each item is one that a list of numbers can stand for. Reading gives no other.
use Rattle.std.specs.Prelude.{◌≡◌, Bool, true, false, cond, List, [], ◌∷◌, ℕ, zero, suc, ◌+◌, ◌-◌, ◌*◌, ◌%◌, ◌<◌, eqb, ltb, length, take}
use Rattle.std.proofs.Math.Path.{refl, ap}
use Rattle.std.proofs.Common.{arith, length-take, get_or-take}
use Rattle.std.proofs.Math.Decide.{dec_lt}
use Rattle.std.proofs.Math.ListN.{get_or, get_or-eq_default}
use Rattle.std.specs.Int.{w32}
use mir.ValLaws.{of_z-to_z}
use borrow.Author.Tests.{leb-false}
use Rattle.numbers.specs.Values.{value, signed, u32_at, value_at}
use Rattle.records.specs.declared.Notation.{Notation}
use Rattle.records.specs.declared.Notation.TheVariants as notations
use Rattle.records.specs.declared.Operand.{Operand}
use Rattle.records.specs.Format.{record_size, part_length, parts_from, parts, operand_at}
use Rattle.records.specs.Refusals.{is_none}
use Rattle.model_format.specs.declared.Thread.{Thread}
use Rattle.model_format.specs.declared.Owned.{Owned}
use Rattle.model_format.specs.declared.Connection.{Connection}
use Rattle.model_format.specs.declared.ModeTransition.{ModeTransition}
use Rattle.model_format.specs.declared.Transition.{Transition}
use Rattle.model_format.specs.declared.Atom.{Atom}
use Rattle.model_format.specs.declared.Assignment.{Assignment}
use Rattle.model_format.specs.declared.Model.{Model}
use Rattle.model_format.specs.declared.ModelRead.{ModelRead}
use Rattle.model_format.specs.declared.Reading.{Reading}
use Rattle.model_format.specs.declared.Record.{Record}
use Rattle.model_format.specs.declared.Record.TheVariants.{HeadRecord, ThreadRecord, InputRecord, OutputRecord, LocalRecord, ConnectionRecord, ModeRecord, TransitionRecord, AtomRecord, AssignmentRecord, Cut, Unknown}
use Rattle.model_format.specs.Format.{head_of, thread_of, input_of, owned_of, connection_of, switch_of, transition_of, atom_of, assignment_of, record_of}
use Rattle.model_format.specs.Model.{max_threads, max_inputs, max_outputs, max_locals, max_connections, max_switches, max_transitions, max_each, max_times, no_thread, no_owned, no_connection, no_switch, no_transition, no_atom, no_assignment, transition_at, empty_model}
use Rattle.model_format.specs.Faultless.{faultless}
use Rattle.model_format.specs.Reading.{last_transition, with_hyperperiods, with_counts, add_head, add_thread, add_input, add_output, add_local, add_connection, add_switch, add_transition, add_atom, add_assignment, add_record, cause_of, next_reading, read_from, begin, read_model}
use Rattle.model_format.specs.WellFormed.{Bytes}
use Rattle.kept_lists.specs.Arrays.{Array, stored, filled, item_same}
use Rattle.kept_lists.specs.Plain.{byte, again}

-- ---- what a list gives back of two bytes, and of an item of each kind
abbrev pub short : ℕ → ℕ
short n = n % 65536

abbrev pub operand_again : Operand → Operand
operand_again o = record { tag = byte o.tag; value = again o.value }

abbrev pub thread_again : Thread → Thread
thread_again x = record { period = x.period; deadline = x.deadline; bcet = x.bcet; wcet = x.wcet; modes = byte x.modes; critical = byte x.critical; first = byte x.first }

abbrev pub owned_again : Owned → Owned
owned_again x = record { owner = byte x.owner; start = again x.start }

abbrev pub connection_again : Connection → Connection
connection_again x = record { kind = byte x.kind; source = short x.source; target = short x.target; modes = byte x.modes }

abbrev pub switch_again : ModeTransition → ModeTransition
switch_again x = record { from = byte x.from; to = byte x.to; h1 = x.h1; h2 = x.h2 }

abbrev pub transition_again : Transition → Transition
transition_again x = record { thread = byte x.thread; from = byte x.from; to = byte x.to; atoms = byte x.atoms; assignments = byte x.assignments }

abbrev pub atom_again : Atom → Atom
atom_again x = record { op = byte x.op; tag = byte x.tag; number = short x.number; right = operand_again x.right }

abbrev pub assignment_again : Assignment → Assignment
assignment_again x = record { tag = byte x.tag; number = short x.number; op = byte x.op; first = operand_again x.first; second = operand_again x.second }

pub record WholeModel (m : Model) : Type 0 where
  pub modes : byte m.timing.modes ≡ m.timing.modes
  pub initial : byte m.timing.initial ≡ m.timing.initial
  pub thread : Array thread_again max_threads m.timing.thread
  pub input : Array owned_again max_inputs m.timing.input
  pub output : Array byte max_outputs m.timing.output
  pub local : Array owned_again max_locals m.timing.local
  pub connection : Array connection_again max_connections m.timing.connection
  pub switch : Array switch_again max_switches m.timing.switch
  pub transition : Array transition_again max_transitions m.behavior.transition
  pub atom : Array atom_again max_times m.behavior.atom
  pub assignment : Array assignment_again max_times m.behavior.assignment

pub empty_whole : WholeModel empty_model
unfolding empty_model
empty_whole = record {
  modes = refl;
  initial = refl;
  thread = filled thread_again max_threads no_thread refl;
  input = filled owned_again max_inputs no_owned refl;
  output = filled byte max_outputs 0 refl;
  local = filled owned_again max_locals no_owned refl;
  connection = filled connection_again max_connections no_connection refl;
  switch = filled switch_again max_switches no_switch refl;
  transition = filled transition_again max_transitions no_transition refl;
  atom = filled atom_again max_times no_atom refl;
  assignment = filled assignment_again max_times no_assignment refl;
}

-- ---- a record whose fields are those of bytes
abbrev Decoded : Record → Type 0
Decoded (HeadRecord x) = (byte x.modes ≡ x.modes) × (byte x.initial ≡ x.initial)
Decoded (ThreadRecord x) = thread_again x ≡ x
Decoded (InputRecord x) = owned_again x ≡ x
Decoded (OutputRecord o) = byte o ≡ o
Decoded (LocalRecord x) = owned_again x ≡ x
Decoded (ConnectionRecord x) = connection_again x ≡ x
Decoded (ModeRecord x) = switch_again x ≡ x
Decoded (TransitionRecord x) = transition_again x ≡ x
Decoded (AtomRecord x) = atom_again x ≡ x
Decoded (AssignmentRecord x) = assignment_again x ≡ x
Decoded Cut = Unit {0}
Decoded Unknown = Unit {0}

either : (b : Bool) (x y : Record) → Decoded x → Decoded y → Decoded (cond b x y)
either true x y p q = p
either false x y p q = q

module _ (x : List ℕ) (h : Bytes x) where
  at : (i : ℕ) → byte (get_or x i 0) ≡ get_or x i 0
  at i = let a = h i in omega arith

  wide : (i : ℕ) → short (get_or x i 0) ≡ get_or x i 0
  wide i = let a = h i in omega arith

  value_at_lem : (p : ℕ) → again (value_at x p) ≡ value_at x p
  value_at_lem p =
      let a = h p in
      let b = h (p + 1) in
      let c = h (p + 2) in
      let d = h (p + 3) in
      ap (λ (k : ℕ). value (signed k)) (of_z-to_z w32 (u32_at x p) (record { fits = omega arith }))

  operand_at_lem : (p : ℕ) → operand_again (operand_at x p) ≡ operand_at x p
  unfolding operand_at
  operand_at_lem p = rw (at p, value_at_lem (p + 1))

  decoded : Decoded (record_of x)
  unfolding record_of head_of thread_of input_of owned_of connection_of switch_of transition_of atom_of assignment_of
  decoded =
      let k = get_or x 0 0 in
      either (eqb (record_size notations.Model k) 0) Unknown _ tt
      (either (ltb (length x) (record_size notations.Model k)) Cut _ tt
      (either (eqb k 1) (HeadRecord (head_of x)) _ (at 1, at 2)
      (either (eqb k 2) (ThreadRecord (thread_of x)) _ (rw (at 17, at 18, at 19))
      (either (eqb k 3) (InputRecord (input_of x)) _ (rw (at 1))
      (either (eqb k 11) (InputRecord (owned_of x)) _ (rw (at 1, value_at_lem 2))
      (either (eqb k 4) (OutputRecord (get_or x 1 0)) _ (at 1)
      (either (eqb k 5) (LocalRecord (owned_of x)) _ (rw (at 1, value_at_lem 2))
      (either (eqb k 6) (ConnectionRecord (connection_of x)) _ (rw (at 1, wide 2, wide 3, at 4))
      (either (eqb k 7) (ModeRecord (switch_of x)) _ (rw (at 1, at 2))
      (either (eqb k 8) (TransitionRecord (transition_of x)) _ (rw (at 1, at 2, at 3))
      (either (eqb k 9) (AtomRecord (atom_of x)) (AssignmentRecord (assignment_of x)) (rw (at 1, at 2, wide 3, operand_at_lem 4)) (rw (at 1, wide 2, at 3, operand_at_lem 4, operand_at_lem 9)))))))))))))

-- ---- one record more
counted : (x : Transition) (n k : ℕ) → transition_again x ≡ x → n < 256 → k < 256 → transition_again (with_counts x n k) ≡ with_counts x n k
counted x n k e h j =
    let a : byte n ≡ n = omega arith in
    let b : byte k ≡ k = omega arith in
    rw (a, b, ap (λ (y : Transition). y.thread) e, ap (λ (y : Transition). y.from) e, ap (λ (y : Transition). y.to) e)

module _ (a : Reading) (w : WholeModel a.model) where
  open_again : transition_again (transition_at a.model.behavior (last_transition a.model.behavior)) ≡ transition_at a.model.behavior (last_transition a.model.behavior)
  unfolding transition_at
  open_again = item_same transition_again max_transitions a.model.behavior.transition (last_transition a.model.behavior) no_transition refl w.transition

  small : (n : ℕ) → byte n ≡ n → n < 256
  small n e = omega arith

  next_whole : (r : Record) → Decoded r → is_none (cause_of a r) ≡ true → WholeModel (add_record a.model r)
  unfolding add_record add_head add_thread add_input add_output add_local add_connection add_switch add_transition add_atom add_assignment cause_of
  next_whole (HeadRecord x) d h = record { modes = d.0; initial = d.1; thread = w.thread; input = w.input; output = w.output; local = w.local; connection = w.connection; switch = w.switch; transition = w.transition; atom = w.atom; assignment = w.assignment }
  next_whole (ThreadRecord x) d h = record { modes = w.modes; initial = w.initial; thread = stored thread_again max_threads _ a.model.timing.threads x d w.thread; input = w.input; output = w.output; local = w.local; connection = w.connection; switch = w.switch; transition = w.transition; atom = w.atom; assignment = w.assignment }
  next_whole (InputRecord x) d h = record { modes = w.modes; initial = w.initial; thread = w.thread; input = stored owned_again max_inputs _ a.model.timing.inputs x d w.input; output = w.output; local = w.local; connection = w.connection; switch = w.switch; transition = w.transition; atom = w.atom; assignment = w.assignment }
  next_whole (OutputRecord o) d h = record { modes = w.modes; initial = w.initial; thread = w.thread; input = w.input; output = stored byte max_outputs _ a.model.timing.outputs o d w.output; local = w.local; connection = w.connection; switch = w.switch; transition = w.transition; atom = w.atom; assignment = w.assignment }
  next_whole (LocalRecord x) d h = record { modes = w.modes; initial = w.initial; thread = w.thread; input = w.input; output = w.output; local = stored owned_again max_locals _ a.model.timing.locals x d w.local; connection = w.connection; switch = w.switch; transition = w.transition; atom = w.atom; assignment = w.assignment }
  next_whole (ConnectionRecord x) d h = record { modes = w.modes; initial = w.initial; thread = w.thread; input = w.input; output = w.output; local = w.local; connection = stored connection_again max_connections _ a.model.timing.connections x d w.connection; switch = w.switch; transition = w.transition; atom = w.atom; assignment = w.assignment }
  next_whole (ModeRecord x) d h = record { modes = w.modes; initial = w.initial; thread = w.thread; input = w.input; output = w.output; local = w.local; connection = w.connection; switch = stored switch_again max_switches _ a.model.timing.switches (with_hyperperiods a.model.timing x) (rw (ap (λ (y : ModeTransition). y.from) d, ap (λ (y : ModeTransition). y.to) d)) w.switch; transition = w.transition; atom = w.atom; assignment = w.assignment }
  next_whole (TransitionRecord x) d h = record { modes = w.modes; initial = w.initial; thread = w.thread; input = w.input; output = w.output; local = w.local; connection = w.connection; switch = w.switch; transition = stored transition_again max_transitions _ a.model.behavior.transitions x d w.transition; atom = w.atom; assignment = w.assignment }
  next_whole (AtomRecord x) d h =
      let v = transition_at a.model.behavior (last_transition a.model.behavior) in
      let n : v.atoms < max_each = leb-false _ _ (faultless _ h).excess in
      let k = small v.assignments (ap (λ (y : Transition). y.assignments) open_again) in
      record { modes = w.modes; initial = w.initial; thread = w.thread; input = w.input; output = w.output; local = w.local; connection = w.connection; switch = w.switch; transition = stored transition_again max_transitions _ (last_transition a.model.behavior) (with_counts v (v.atoms + 1) v.assignments) (counted v (v.atoms + 1) v.assignments open_again (omega arith) k) w.transition; atom = stored atom_again max_times _ (last_transition a.model.behavior * max_each + v.atoms) x d w.atom; assignment = w.assignment }
  next_whole (AssignmentRecord x) d h =
      let v = transition_at a.model.behavior (last_transition a.model.behavior) in
      let n : v.assignments < max_each = leb-false _ _ (faultless _ h).excess in
      let k = small v.atoms (ap (λ (y : Transition). y.atoms) open_again) in
      record { modes = w.modes; initial = w.initial; thread = w.thread; input = w.input; output = w.output; local = w.local; connection = w.connection; switch = w.switch; transition = stored transition_again max_transitions _ (last_transition a.model.behavior) (with_counts v v.atoms (v.assignments + 1)) (counted v v.atoms (v.assignments + 1) open_again k (omega arith)) w.transition; atom = w.atom; assignment = stored assignment_again max_times _ (last_transition a.model.behavior * max_each + v.assignments) x d w.assignment }
  next_whole Cut d h = w
  next_whole Unknown d h = w

-- ---- all records
abbrev EachBytes : List (List ℕ) → Type 0
EachBytes [] = Unit {0}
EachBytes (x ∷ l) = Bytes x × EachBytes l

take_bytes : (n : ℕ) (s : List ℕ) → Bytes s → Bytes (take n s)
take_bytes n s h i = go (dec_lt i n)
  where
    go : Dec (i < n) → get_or (take n s) i 0 < 256
    go (yes l) = rw (get_or-take n s i 0 l) (h i)
    go (no l) = rw (get_or-eq_default (take n s) 0 {n = i} (simp length-take (omega arith))) (omega arith)

part_bytes : (w : Notation) (n : ℕ) (s : List ℕ) → Bytes s → EachBytes (parts_from w n s)
unfolding parts_from
part_bytes w n [] h = tt
part_bytes w (suc n) (b ∷ r) h = part_bytes w n r (λ i. h (suc i))
part_bytes w zero (k ∷ r) h = (take_bytes (part_length w k (suc (length r))) (k ∷ r) h, part_bytes w (part_length w k (suc (length r)) - 1) r (λ i. h (suc i)))

either_read : (b : Bool) (x y : ModelRead) → (b ≡ true → WholeModel x.model) → WholeModel y.model → WholeModel (cond b x y).model
either_read true x y p q = p refl
either_read false x y p q = q

read_from_whole : (a : Reading) (p : ℕ) (l : List (List ℕ)) → EachBytes l → WholeModel a.model → WholeModel (read_from a p l).model
unfolding read_from
read_from_whole a p [] d w = either_read (eqb a.last 0) _ _ (λ e. empty_whole) w
read_from_whole a p (x ∷ l) d w =
    either_read (is_none (cause_of a (record_of x))) _ _ (λ e. read_from_whole (next_reading a (record_of x)) (p + length x) l d.1 (next_whole a w (record_of x) (decoded x d.0) e)) empty_whole

pub read_whole : (s : List ℕ) → Bytes s → WholeModel (read_model s).model
unfolding read_model
read_whole s b = read_from_whole begin 0 (parts notations.Model s) (part_bytes notations.Model 0 s b) empty_whole
