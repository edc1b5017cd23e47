-- The model as read: limits, items by number, and what is asked of them.
use Rattle.std.specs.Prelude.{Bool, false, cond, ◌&&◌, List, ℕ, ◌+◌, ◌*◌, ◌/◌, ◌%◌, ◌^◌, replicate, eqb, ltb}
use Rattle.numbers.specs.Lists.{item, fold_below}
use Rattle.numbers.specs.Values.{duration, natural}
use Rattle.numbers.specs.Multiples.{lcm_up_to}
use Rattle.records.specs.declared.Operand.{Operand}
use Rattle.records.specs.Events.{last_clock}
use Rattle.model_format.specs.declared.Thread.{Thread}
use Rattle.model_format.specs.declared.Owned.{Owned}
use Rattle.model_format.specs.declared.Connection.{Connection}
use Rattle.model_format.specs.declared.ModeTransition.{ModeTransition}
use Rattle.model_format.specs.declared.Transition.{Transition}
use Rattle.model_format.specs.declared.Atom.{Atom}
use Rattle.model_format.specs.declared.Assignment.{Assignment}
use Rattle.model_format.specs.declared.Timing.{Timing}
use Rattle.model_format.specs.declared.Behavior.{Behavior}
use Rattle.model_format.specs.declared.Model.{Model}

-- "At most: 16 threads, 32 each of ports in, ports out, locals and connections, 16 mode transitions, 64 behaviour transitions, 4 atoms
-- and 4 assignments each."
abbrev pub max_threads : ℕ
max_threads = 16

abbrev pub max_inputs : ℕ
max_inputs = 32

abbrev pub max_outputs : ℕ
max_outputs = 32

abbrev pub max_locals : ℕ
max_locals = 32

abbrev pub max_connections : ℕ
max_connections = 32

abbrev pub max_switches : ℕ
max_switches = 16

abbrev pub max_transitions : ℕ
max_transitions = 64

abbrev pub max_each : ℕ
max_each = 4

abbrev pub max_times : ℕ
max_times = max_transitions * max_each

-- ---- items by number; one that is not there is blank
abbrev pub no_thread : Thread
no_thread = record { period = duration 0; deadline = duration 0; bcet = duration 0; wcet = duration 0; modes = 0; critical = 0; first = 0 }

abbrev pub no_owned : Owned
no_owned = record { owner = 0; start = natural 0 }

abbrev pub no_connection : Connection
no_connection = record { kind = 0; source = 0; target = 0; modes = 0 }

abbrev pub no_switch : ModeTransition
no_switch = record { from = 0; to = 0; h1 = duration 0; h2 = duration 0 }

abbrev pub no_transition : Transition
no_transition = record { thread = 0; from = 0; to = 0; atoms = 0; assignments = 0 }

abbrev pub no_operand : Operand
no_operand = record { tag = 0; value = natural 0 }

abbrev pub no_atom : Atom
no_atom = record { op = 0; tag = 0; number = 0; right = no_operand }

abbrev pub no_assignment : Assignment
no_assignment = record { tag = 0; number = 0; op = 0; first = no_operand; second = no_operand }

unfoldable pub thread_at : Timing → ℕ → Thread
thread_at m t = item max_threads m.thread t no_thread

unfoldable pub input_at : Timing → ℕ → Owned
input_at m i = item max_inputs m.input i no_owned

abbrev pub input_owner : Timing → ℕ → ℕ
input_owner m i = (input_at m i).owner

unfoldable pub output_owner : Timing → ℕ → ℕ
output_owner m o = item max_outputs m.output o 0

unfoldable pub local_at : Timing → ℕ → Owned
local_at m v = item max_locals m.local v no_owned

unfoldable pub connection_at : Timing → ℕ → Connection
connection_at m c = item max_connections m.connection c no_connection

unfoldable pub switch_at : Timing → ℕ → ModeTransition
switch_at m q = item max_switches m.switch q no_switch

unfoldable pub transition_at : Behavior → ℕ → Transition
transition_at b k = item max_transitions b.transition k no_transition

-- atom j, assignment j of transition k: "each 09 or 0A belongs to the last 08"
unfoldable pub atom_at : Behavior → ℕ → ℕ → Atom
atom_at b k j = item max_times b.atom (k * max_each + j) no_atom

unfoldable pub assignment_at : Behavior → ℕ → ℕ → Assignment
assignment_at b k j = item max_times b.assignment (k * max_each + j) no_assignment

-- ---- a timing with n items of one kind, those of l
abbrev pub with_threads : Timing → ℕ → List Thread → Timing
with_threads m n l = record { modes = m.modes; initial = m.initial; threads = n; thread = l; inputs = m.inputs; input = m.input; outputs = m.outputs; output = m.output; locals = m.locals; local = m.local; connections = m.connections; connection = m.connection; switches = m.switches; switch = m.switch }

abbrev pub with_inputs : Timing → ℕ → List Owned → Timing
with_inputs m n l = record { modes = m.modes; initial = m.initial; threads = m.threads; thread = m.thread; inputs = n; input = l; outputs = m.outputs; output = m.output; locals = m.locals; local = m.local; connections = m.connections; connection = m.connection; switches = m.switches; switch = m.switch }

abbrev pub with_outputs : Timing → ℕ → List ℕ → Timing
with_outputs m n l = record { modes = m.modes; initial = m.initial; threads = m.threads; thread = m.thread; inputs = m.inputs; input = m.input; outputs = n; output = l; locals = m.locals; local = m.local; connections = m.connections; connection = m.connection; switches = m.switches; switch = m.switch }

abbrev pub with_locals : Timing → ℕ → List Owned → Timing
with_locals m n l = record { modes = m.modes; initial = m.initial; threads = m.threads; thread = m.thread; inputs = m.inputs; input = m.input; outputs = m.outputs; output = m.output; locals = n; local = l; connections = m.connections; connection = m.connection; switches = m.switches; switch = m.switch }

abbrev pub with_connections : Timing → ℕ → List Connection → Timing
with_connections m n l = record { modes = m.modes; initial = m.initial; threads = m.threads; thread = m.thread; inputs = m.inputs; input = m.input; outputs = m.outputs; output = m.output; locals = m.locals; local = m.local; connections = n; connection = l; switches = m.switches; switch = m.switch }

abbrev pub with_switches : Timing → ℕ → List ModeTransition → Timing
with_switches m n l = record { modes = m.modes; initial = m.initial; threads = m.threads; thread = m.thread; inputs = m.inputs; input = m.input; outputs = m.outputs; output = m.output; locals = m.locals; local = m.local; connections = m.connections; connection = m.connection; switches = n; switch = l }

unfoldable pub empty_model : Model
empty_model = record {
  timing = record {
    modes = 0;
    initial = 0;
    threads = 0;
    thread = replicate max_threads no_thread;
    inputs = 0;
    input = replicate max_inputs no_owned;
    outputs = 0;
    output = replicate max_outputs 0;
    locals = 0;
    local = replicate max_locals no_owned;
    connections = 0;
    connection = replicate max_connections no_connection;
    switches = 0;
    switch = replicate max_switches no_switch;
  };
  behavior = record {
    transitions = 0;
    transition = replicate max_transitions no_transition;
    atom = replicate max_times no_atom;
    assignment = replicate max_times no_assignment;
  };
}

-- ---- "A mask has bit m for mode m."
unfoldable pub in_mode : ℕ → ℕ → Bool
in_mode mask mode = cond (ltb mode 8) (eqb (mask / 2 ^ mode % 2) 1) false

-- ---- "tag u8 (0 constant, 1 input port, 2 local)", "a target tag is 2 local or 3 output port"
abbrev pub input_tag : ℕ
input_tag = 1

abbrev pub local_tag : ℕ
local_tag = 2

abbrev pub output_tag : ℕ
output_tag = 3

-- ---- connections
-- "type u8 (0 immediate, 1 delayed)"
abbrev pub immediate : ℕ
immediate = 0

abbrev pub delayed : ℕ
delayed = 1

abbrev pub is_kind : Timing → ℕ → ℕ → Bool
is_kind m kind c = eqb (connection_at m c).kind kind

-- the threads that a connection comes from and goes to
abbrev pub source_thread : Timing → ℕ → ℕ
source_thread m c = output_owner m (connection_at m c).source

abbrev pub target_thread : Timing → ℕ → ℕ
target_thread m c = input_owner m (connection_at m c).target

-- "critical (0 or 1)"
abbrev pub is_critical : Thread → Bool
is_critical x = eqb x.critical 1

-- ---- "H1 is the least common multiple of the old mode's critical periods, H2 of those critical in old and new mode; 1 if none."
unfoldable pub critical_in : Thread → ℕ → Bool
critical_in x mode = is_critical x && in_mode x.modes mode

unfoldable pub hyperperiod : Timing → ℕ → ℕ → ℕ
hyperperiod m old new =
    fold_below m.threads (λ t h. cond (critical_in (thread_at m t) old && critical_in (thread_at m t) new) (lcm_up_to last_clock h (thread_at m t).period.0) h) 1

abbrev pub h1_of : Timing → ℕ → ℕ
h1_of m old = hyperperiod m old old

abbrev pub h2_of : Timing → ℕ → ℕ → ℕ
h2_of m old new = hyperperiod m old new
