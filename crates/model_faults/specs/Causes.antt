-- Why a record is refused, by the few numbers and items that a reader has at hand.
use Rattle.std.specs.Prelude.{Bool, true, false, cond, ◌&&◌, ◌||◌, not, ℕ, eqb, ltb, leb}
use Rattle.numbers.specs.Values.{bits_of}
use Rattle.records.specs.declared.Operand.{Operand}
use Rattle.records.specs.Events.{last_clock}
use Rattle.model_format.specs.declared.ModeTransition.{ModeTransition}
use Rattle.model_format.specs.declared.Atom.{Atom}
use Rattle.model_format.specs.declared.Record.{Record}
use Rattle.model_format.specs.declared.Record.TheVariants.{HeadRecord, ThreadRecord, InputRecord, OutputRecord, LocalRecord, ConnectionRecord, ModeRecord, TransitionRecord, AtomRecord, AssignmentRecord, Cut, Unknown}
use Rattle.model_format.specs.declared.Faults.{Faults}
use Rattle.model_format.specs.declared.Timing.{Timing}
use Rattle.model_format.specs.declared.Connection.{Connection}
use Rattle.model_format.specs.declared.Transition.{Transition}
use Rattle.model_format.specs.declared.Assignment.{Assignment}
use Rattle.model_format.specs.Model.{max_connections, max_switches, max_transitions, max_each, empty_model, hyperperiod}
use Rattle.model_format.specs.Reading.{mask_fits, is_state, names_item, operand_tag, operand_names, left_tag, target_tag, is_connected, faults}
use Rattle.model_faults.specs.declared.Stand.{Stand}
use Rattle.model_faults.specs.declared.Found.{Found}

-- ---- where a reader stands
-- the timing with the numbers of n and the items of t
abbrev pub timing_of : Stand → Timing → Timing
timing_of n t = record { modes = n.modes; initial = n.initial; threads = n.threads; thread = t.thread; inputs = n.inputs; input = t.input; outputs = n.outputs; output = t.output; locals = n.locals; local = t.local; connections = n.connections; connection = t.connection; switches = n.switches; switch = t.switch }

-- with no items, for definitions that ask for none
abbrev pub bare : Stand → Timing
bare n = timing_of n empty_model.timing

-- ---- names and targets
abbrev pub number_in : Operand → ℕ
number_in o = bits_of o.value.0

abbrev pub same_target : Assignment → Assignment → Bool
same_target x a = eqb x.tag a.tag && eqb x.number a.number

-- ---- what items tell
abbrev pub nothing : Found
nothing = record { connected = false; h1 = 1; h2 = 1 }

unfoldable pub found_in : Timing → Record → Found
found_in m (HeadRecord x) = nothing
found_in m (ThreadRecord x) = nothing
found_in m (InputRecord o) = nothing
found_in m (OutputRecord o) = nothing
found_in m (LocalRecord x) = nothing
found_in m (ConnectionRecord x) = record { connected = is_connected m x.target; h1 = 1; h2 = 1 }
found_in m (ModeRecord x) = record { connected = false; h1 = hyperperiod m x.from x.from; h2 = hyperperiod m x.from x.to }
found_in m (TransitionRecord x) = nothing
found_in m (AtomRecord x) = nothing
found_in m (AssignmentRecord x) = nothing
found_in m Cut = nothing
found_in m Unknown = nothing

-- ---- the cause of a record, by where the reader stands
abbrev pub connection_faults_by : Bool → Stand → Found → Connection → Faults
connection_faults_by order n f x =
    faults order (leb max_connections n.connections) (not (ltb x.source n.outputs && ltb x.target n.inputs)) false
    (not (ltb x.kind 2 && mask_fits (bare n) x.modes)) false f.connected false

abbrev pub switch_faults_by : Bool → Stand → Found → ModeTransition → Faults
switch_faults_by order n f x =
    faults order (leb max_switches n.switches) (not (ltb x.from n.modes && ltb x.to n.modes)) false false false false
    (ltb last_clock f.h1 || ltb last_clock f.h2)

abbrev pub transition_faults_by : Bool → Stand → ℕ → Transition → Faults
transition_faults_by order n k x =
    faults order (leb max_transitions k) (leb n.threads x.thread) false (not (is_state x.from && is_state x.to)) false false false

-- v is the transition that it belongs to; `owned` says that v's thread owns what the record names, `twice` that the target is set already
abbrev pub atom_faults_by : Bool → Stand → Transition → Bool → Atom → Faults
atom_faults_by order n v owned a =
    faults order (leb max_each v.atoms)
    (not (cond (left_tag a) (names_item (bare n) a.tag a.number) true && operand_names (bare n) a.right)) false
    (not (ltb a.op 6 && (left_tag a && operand_tag a.right))) (not owned) false false

abbrev pub assignment_faults_by : Bool → Stand → Transition → Bool → Bool → Assignment → Faults
assignment_faults_by order n v owned twice a =
    faults order (leb max_each v.assignments)
    (not (cond (target_tag a) (names_item (bare n) a.tag a.number) true && (operand_names (bare n) a.first && operand_names (bare n) a.second))) false
    (not (target_tag a && (ltb a.op 3 && (operand_tag a.first && operand_tag a.second)))) (not owned) twice false
