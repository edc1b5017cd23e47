-- Reading a model: causes 1 to 7, 14 and 15, at the first bad record.
use Rattle.std.specs.Prelude.{Bool, true, false, cond, ◌&&◌, ◌||◌, not, List, [], ◌∷◌, ℕ, ◌+◌, ◌*◌, ◌^◌, ◌-◌, length, eqb, ltb, leb}
use Rattle.numbers.specs.Lists.{store, any_below}
use Rattle.numbers.specs.Values.{duration, bits_of}
use Rattle.records.specs.declared.Notation.TheVariants as notations
use Rattle.records.specs.declared.Operand.{Operand}
use Rattle.records.specs.declared.Cause.{Cause}
use Rattle.records.specs.declared.Cause.TheVariants.{None, CutRecord, WrongKind, TooMany, WrongField, OtherThread, SetTwice, LongHyperperiod, NamesNothing, FaultyTime}
use Rattle.records.specs.Format.{parts}
use Rattle.records.specs.Refusals.{is_none, in_model, no_refusal}
use Rattle.records.specs.Events.{last_clock}
use Rattle.model_format.specs.declared.Head.{Head}
use Rattle.model_format.specs.declared.Thread.{Thread}
use Rattle.model_format.specs.declared.Owned.{Owned}
use Rattle.model_format.specs.declared.Connection.{Connection}
use Rattle.model_format.specs.declared.ModeTransition.{ModeTransition}
use Rattle.model_format.specs.declared.Transition.{Transition}
use Rattle.model_format.specs.declared.Atom.{Atom}
use Rattle.model_format.specs.declared.Assignment.{Assignment}
use Rattle.model_format.specs.declared.Record.{Record}
use Rattle.model_format.specs.declared.Record.TheVariants.{HeadRecord, ThreadRecord, InputRecord, OutputRecord, LocalRecord, ConnectionRecord, ModeRecord, TransitionRecord, AtomRecord, AssignmentRecord, Cut, Unknown}
use Rattle.model_format.specs.declared.Timing.{Timing}
use Rattle.model_format.specs.declared.Behavior.{Behavior}
use Rattle.model_format.specs.declared.Model.{Model}
use Rattle.model_format.specs.declared.Reading.{Reading}
use Rattle.model_format.specs.declared.Faults.{Faults}
use Rattle.model_format.specs.declared.ModelRead.{ModelRead}
use Rattle.model_format.specs.Format.{record_of, rank_of, head_rank, transition_rank, atom_rank, assignment_rank}
use Rattle.model_format.specs.Model.{max_threads, max_inputs, max_outputs, max_locals, max_connections, max_switches, max_transitions, max_each, max_times, input_owner, output_owner, local_at, connection_at, transition_at, assignment_at, empty_model, with_threads, with_inputs, with_outputs, with_locals, with_connections, with_switches, h1_of, h2_of, input_tag, local_tag, output_tag}

-- ---- order: "Kinds 01 to 08 never fall, one 01 first (a second is out of order); 09 follows 08 or 09, 0A follows 08, 09 or 0A". A record
-- of rank k after one of rank `last`, which is 0 before the first:
unfoldable pub in_order : ℕ → ℕ → Bool
in_order last k =
    cond (eqb k head_rank) (eqb last 0)
    (cond (eqb k atom_rank) (eqb last transition_rank || eqb last atom_rank)
    (cond (eqb k assignment_rank) (leb transition_rank last) (ltb 0 last && leb (cond (ltb transition_rank last) transition_rank last) k)))

-- ---- fields
-- "1 ≤ Deadline ≤ Period ≤ 1,000,000; 1 ≤ Min ≤ Max ≤ 1,000,000"
abbrev pub longest_time : ℕ
longest_time = 1000000

unfoldable pub times_fit : Thread → Bool
times_fit x =
    leb 1 x.deadline.0 && (leb x.deadline.0 x.period.0 && (leb x.period.0 longest_time &&
    (leb 1 x.bcet.0 && (leb x.bcet.0 x.wcet.0 && leb x.wcet.0 longest_time))))

-- "Masks name existing modes only and may be 0."
unfoldable pub mask_fits : Timing → ℕ → Bool
mask_fits m mask = ltb mask (2 ^ m.modes)

-- "states 0 to 7"
abbrev pub is_state : ℕ → Bool
is_state n = ltb n 8

-- the item that a tag and a number name
unfoldable pub names_item : Timing → ℕ → ℕ → Bool
names_item m tag n =
    cond (eqb tag input_tag) (ltb n m.inputs) (cond (eqb tag local_tag) (ltb n m.locals) (cond (eqb tag output_tag) (ltb n m.outputs) true))

-- and its owner is the thread t
unfoldable pub is_owned_by : Timing → ℕ → ℕ → ℕ → Bool
is_owned_by m t tag n =
    cond (eqb tag input_tag) (eqb (input_owner m n) t) (cond (eqb tag local_tag) (eqb (local_at m n).owner t) (cond (eqb tag output_tag) (eqb (output_owner m n) t) true))

-- "a tag u8 (0 constant, 1 input port, 2 local) and an i32"; a negative number's bits name nothing.
abbrev pub operand_tag : Operand → Bool
operand_tag o = ltb o.tag 3

abbrev pub operand_names : Timing → Operand → Bool
operand_names m o = cond (operand_tag o) (names_item m o.tag (bits_of o.value.0)) true

abbrev pub operand_owned : Timing → ℕ → Operand → Bool
operand_owned m t o = is_owned_by m t o.tag (bits_of o.value.0)

-- "A left tag is 1 or 2; a target tag is 2 local or 3 output port."
abbrev pub left_tag : Atom → Bool
left_tag a = eqb a.tag input_tag || eqb a.tag local_tag

abbrev pub target_tag : Assignment → Bool
target_tag a = eqb a.tag local_tag || eqb a.tag output_tag

-- ---- what is there already
-- "input port connected twice"
unfoldable pub is_connected : Timing → ℕ → Bool
is_connected m i = any_below m.connections (λ c. eqb (connection_at m c).target i)

-- the transition that a 09 or 0A belongs to
abbrev pub last_transition : Behavior → ℕ
last_transition b = b.transitions - 1

-- "target twice in a transition"
unfoldable pub is_assigned : Behavior → Assignment → Bool
is_assigned b a =
    let k = last_transition b in
    any_below (transition_at b k).assignments (λ j. eqb (assignment_at b k j).tag a.tag && eqb (assignment_at b k j).number a.number)

-- ---- the faults of a record, in a place where its rank may or may not stand
abbrev pub faults : Bool → Bool → Bool → Bool → Bool → Bool → Bool → Bool → Faults
faults order excess names times ranges owner twice hyperperiod =
    record { order = order; excess = excess; names = names; times = times; ranges = ranges; owner = owner; twice = twice; hyperperiod = hyperperiod }

abbrev pub port_faults : Bool → ℕ → ℕ → Timing → ℕ → Faults
port_faults order count limit m owner = faults order (leb limit count) (leb m.threads owner) false false false false false

abbrev pub head_faults : Bool → Head → Faults
head_faults order x = faults order false (leb x.modes x.initial) false (not (leb 1 x.modes && leb x.modes 8)) false false false

abbrev pub thread_faults : Bool → Timing → Thread → Faults
thread_faults order m x =
    faults order (leb max_threads m.threads) false (not (times_fit x)) (not (mask_fits m x.modes && (ltb x.critical 2 && is_state x.first))) false false false

abbrev pub connection_faults : Bool → Timing → Connection → Faults
connection_faults order m x =
    faults order (leb max_connections m.connections) (not (ltb x.source m.outputs && ltb x.target m.inputs)) false
    (not (ltb x.kind 2 && mask_fits m x.modes)) false (is_connected m x.target) false

abbrev pub switch_faults : Bool → Timing → ModeTransition → Faults
switch_faults order m x =
    faults order (leb max_switches m.switches) (not (ltb x.from m.modes && ltb x.to m.modes)) false false false false
    (ltb last_clock (h1_of m x.from) || ltb last_clock (h2_of m x.from x.to))

abbrev pub transition_faults : Bool → Model → Transition → Faults
transition_faults order m x =
    faults order (leb max_transitions m.behavior.transitions) (leb m.timing.threads x.thread) false (not (is_state x.from && is_state x.to)) false false false

-- t is the thread of the last transition
abbrev pub atom_faults : Bool → Timing → ℕ → ℕ → Atom → Faults
atom_faults order m t count a =
    faults order (leb max_each count)
    (not (cond (left_tag a) (names_item m a.tag a.number) true && operand_names m a.right)) false
    (not (ltb a.op 6 && (left_tag a && operand_tag a.right)))
    (not (is_owned_by m t a.tag a.number && operand_owned m t a.right)) false false

abbrev pub assignment_faults : Bool → Model → ℕ → ℕ → Assignment → Faults
assignment_faults order m t count a =
    faults order (leb max_each count)
    (not (cond (target_tag a) (names_item m.timing a.tag a.number) true && (operand_names m.timing a.first && operand_names m.timing a.second))) false
    (not (target_tag a && (ltb a.op 3 && (operand_tag a.first && operand_tag a.second))))
    (not (is_owned_by m.timing t a.tag a.number && (operand_owned m.timing t a.first && operand_owned m.timing t a.second)))
    (is_assigned m.behavior a) false

-- "The first bad record decides, causes in table order"; "14, 15, then 4 stand in the old place of 4"
unfoldable pub judged : Faults → Cause
judged f =
    cond f.order WrongKind
    (cond f.excess TooMany
    (cond f.names NamesNothing
    (cond f.times FaultyTime
    (cond f.ranges WrongField
    (cond f.owner OtherThread
    (cond f.twice SetTwice
    (cond f.hyperperiod LongHyperperiod None)))))))

-- the record may not stand here
abbrev pub misplaced : Reading → Record → Bool
misplaced a r = not (in_order a.last (rank_of r))

-- the transition that atoms and assignments belong to
abbrev pub open_transition : Reading → Transition
open_transition a = transition_at a.model.behavior (last_transition a.model.behavior)

unfoldable pub cause_of : Reading → Record → Cause
cause_of a (HeadRecord x) = judged (head_faults (misplaced a (HeadRecord x)) x)
cause_of a (ThreadRecord x) = judged (thread_faults (misplaced a (ThreadRecord x)) a.model.timing x)
cause_of a (InputRecord x) = judged (port_faults (misplaced a (InputRecord x)) a.model.timing.inputs max_inputs a.model.timing x.owner)
cause_of a (OutputRecord o) = judged (port_faults (misplaced a (OutputRecord o)) a.model.timing.outputs max_outputs a.model.timing o)
cause_of a (LocalRecord x) = judged (port_faults (misplaced a (LocalRecord x)) a.model.timing.locals max_locals a.model.timing x.owner)
cause_of a (ConnectionRecord x) = judged (connection_faults (misplaced a (ConnectionRecord x)) a.model.timing x)
cause_of a (ModeRecord x) = judged (switch_faults (misplaced a (ModeRecord x)) a.model.timing x)
cause_of a (TransitionRecord x) = judged (transition_faults (misplaced a (TransitionRecord x)) a.model x)
cause_of a (AtomRecord x) = judged (atom_faults (misplaced a (AtomRecord x)) a.model.timing (open_transition a).thread (open_transition a).atoms x)
cause_of a (AssignmentRecord x) = judged (assignment_faults (misplaced a (AssignmentRecord x)) a.model (open_transition a).thread (open_transition a).assignments x)
cause_of a Cut = CutRecord
cause_of a Unknown = WrongKind

-- ---- a record that is accepted: "Items are numbered from 0 in record order per kind."
unfoldable pub add_head : Timing → Head → Timing
add_head m x = record { modes = x.modes; initial = x.initial; threads = m.threads; thread = m.thread; inputs = m.inputs; input = m.input; outputs = m.outputs; output = m.output; locals = m.locals; local = m.local; connections = m.connections; connection = m.connection; switches = m.switches; switch = m.switch }

unfoldable pub add_thread : Timing → Thread → Timing
add_thread m x = with_threads m (m.threads + 1) (store max_threads m.thread m.threads x)

-- 0B "shares its numbering" with 03
unfoldable pub add_input : Timing → Owned → Timing
add_input m x = with_inputs m (m.inputs + 1) (store max_inputs m.input m.inputs x)

unfoldable pub add_output : Timing → ℕ → Timing
add_output m owner = with_outputs m (m.outputs + 1) (store max_outputs m.output m.outputs owner)

unfoldable pub add_local : Timing → Owned → Timing
add_local m x = with_locals m (m.locals + 1) (store max_locals m.local m.locals x)

unfoldable pub add_connection : Timing → Connection → Timing
add_connection m x = with_connections m (m.connections + 1) (store max_connections m.connection m.connections x)

-- with its H1 and H2
abbrev pub with_hyperperiods : Timing → ModeTransition → ModeTransition
with_hyperperiods m x = record { from = x.from; to = x.to; h1 = duration (h1_of m x.from); h2 = duration (h2_of m x.from x.to) }

unfoldable pub add_switch : Timing → ModeTransition → Timing
add_switch m x = with_switches m (m.switches + 1) (store max_switches m.switch m.switches (with_hyperperiods m x))

unfoldable pub add_transition : Behavior → Transition → Behavior
add_transition b x = record { transitions = b.transitions + 1; transition = store max_transitions b.transition b.transitions x; atom = b.atom; assignment = b.assignment }

abbrev pub with_counts : Transition → ℕ → ℕ → Transition
with_counts x atoms assignments = record { thread = x.thread; from = x.from; to = x.to; atoms = atoms; assignments = assignments }

unfoldable pub add_atom : Behavior → Atom → Behavior
add_atom b a =
    let k = last_transition b in
    let x = transition_at b k in
    record { transitions = b.transitions; transition = store max_transitions b.transition k (with_counts x (x.atoms + 1) x.assignments); atom = store max_times b.atom (k * max_each + x.atoms) a; assignment = b.assignment }

unfoldable pub add_assignment : Behavior → Assignment → Behavior
add_assignment b a =
    let k = last_transition b in
    let x = transition_at b k in
    record { transitions = b.transitions; transition = store max_transitions b.transition k (with_counts x x.atoms (x.assignments + 1)); atom = b.atom; assignment = store max_times b.assignment (k * max_each + x.assignments) a }

abbrev pub with_timing : Model → Timing → Model
with_timing m t = record { timing = t; behavior = m.behavior }

abbrev pub with_behavior : Model → Behavior → Model
with_behavior m b = record { timing = m.timing; behavior = b }

unfoldable pub add_record : Model → Record → Model
add_record m (HeadRecord x) = with_timing m (add_head m.timing x)
add_record m (ThreadRecord x) = with_timing m (add_thread m.timing x)
add_record m (InputRecord x) = with_timing m (add_input m.timing x)
add_record m (OutputRecord o) = with_timing m (add_output m.timing o)
add_record m (LocalRecord x) = with_timing m (add_local m.timing x)
add_record m (ConnectionRecord x) = with_timing m (add_connection m.timing x)
add_record m (ModeRecord x) = with_timing m (add_switch m.timing x)
add_record m (TransitionRecord x) = with_behavior m (add_transition m.behavior x)
add_record m (AtomRecord x) = with_behavior m (add_atom m.behavior x)
add_record m (AssignmentRecord x) = with_behavior m (add_assignment m.behavior x)
add_record m Cut = m
add_record m Unknown = m

abbrev pub next_reading : Reading → Record → Reading
next_reading a r = record { last = rank_of r; model = add_record a.model r }

-- "The first bad record decides": the parts from place p on. "no head": where the parts end before a head.
unfoldable pub read_from : Reading → ℕ → List (List ℕ) → ModelRead
read_from a p [] =
    cond (eqb a.last 0) (record { refusal = in_model WrongKind p p; model = empty_model }) (record { refusal = no_refusal; model = a.model })
read_from a p (x ∷ l) =
    let k = cause_of a (record_of x) in
    let r = read_from (next_reading a (record_of x)) (p + length x) l in
    cond (is_none k) r (record { refusal = in_model k p (p + length x); model = empty_model })

abbrev pub begin : Reading
begin = record { last = 0; model = empty_model }

unfoldable pub read_model : List ℕ → ModelRead
read_model s = read_from begin 0 (parts notations.Model s)
