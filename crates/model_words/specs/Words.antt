-- A model as a list of numbers, one field a number: what a list of any content stands for. Past its end a list reads 0, and a number that
-- is too large for its field is cut to it, so that every list is a model.
use Rattle.std.specs.Prelude.{List, ℕ, ◌+◌, ◌*◌, ◌%◌, get_or}
use Rattle.numbers.specs.declared.Duration.{Duration}
use Rattle.numbers.specs.declared.Value.{Value}
use Rattle.numbers.specs.Lists.{list_below}
use Rattle.numbers.specs.Values.{duration, value, signed}
use Rattle.records.specs.declared.Operand.{Operand}
use Rattle.model_format.specs.declared.Thread.{Thread}
use Rattle.model_format.specs.declared.Owned.{Owned}
use Rattle.model_format.specs.declared.Connection.{Connection}
use Rattle.model_format.specs.declared.ModeTransition.{ModeTransition}
use Rattle.model_format.specs.declared.Transition.{Transition}
use Rattle.model_format.specs.declared.Atom.{Atom}
use Rattle.model_format.specs.declared.Assignment.{Assignment}
use Rattle.model_format.specs.declared.Timing.{Timing}
use Rattle.model_format.specs.declared.Behavior.{Behavior}
use Rattle.model_format.specs.declared.Model.{Model}
use Rattle.model_format.specs.Model.{max_threads, max_inputs, max_outputs, max_locals, max_connections, max_switches, max_transitions, max_times}

-- ---- layout: the head and how many items there are of each kind, then the items, each kind with its room
abbrev pub modes_place : ℕ
modes_place = 0

abbrev pub initial_place : ℕ
initial_place = 1

abbrev pub threads_place : ℕ
threads_place = 2

abbrev pub inputs_place : ℕ
inputs_place = 3

abbrev pub outputs_place : ℕ
outputs_place = 4

abbrev pub locals_place : ℕ
locals_place = 5

abbrev pub connections_place : ℕ
connections_place = 6

abbrev pub switches_place : ℕ
switches_place = 7

abbrev pub transitions_place : ℕ
transitions_place = 8

-- how many numbers an item has
abbrev pub thread_size : ℕ
thread_size = 7

abbrev pub owned_size : ℕ
owned_size = 2

abbrev pub connection_size : ℕ
connection_size = 4

abbrev pub switch_size : ℕ
switch_size = 4

abbrev pub transition_size : ℕ
transition_size = 5

abbrev pub atom_size : ℕ
atom_size = 5

abbrev pub assignment_size : ℕ
assignment_size = 7

-- where the items of a kind begin
abbrev pub threads_from : ℕ
threads_from = 9

abbrev pub inputs_from : ℕ
inputs_from = threads_from + max_threads * thread_size

abbrev pub outputs_from : ℕ
outputs_from = inputs_from + max_inputs * owned_size

abbrev pub locals_from : ℕ
locals_from = outputs_from + max_outputs

abbrev pub connections_from : ℕ
connections_from = locals_from + max_locals * owned_size

abbrev pub switches_from : ℕ
switches_from = connections_from + max_connections * connection_size

abbrev pub transitions_from : ℕ
transitions_from = switches_from + max_switches * switch_size

abbrev pub atoms_from : ℕ
atoms_from = transitions_from + max_transitions * transition_size

abbrev pub assignments_from : ℕ
assignments_from = atoms_from + max_times * atom_size

abbrev pub model_words : ℕ
model_words = assignments_from + max_times * assignment_size

-- ---- fields
abbrev pub byte_in : List ℕ → ℕ → ℕ
byte_in l p = get_or l p 0 % 256

abbrev pub short_in : List ℕ → ℕ → ℕ
short_in l p = get_or l p 0 % 65536

abbrev pub duration_in : List ℕ → ℕ → Duration
duration_in l p = duration (get_or l p 0)

abbrev pub value_in : List ℕ → ℕ → Value
value_in l p = value (signed (get_or l p 0))

abbrev pub operand_in : List ℕ → ℕ → Operand
operand_in l p = record { tag = byte_in l p; value = value_in l (p + 1) }

-- ---- the item whose numbers begin at p
unfoldable pub thread_in : List ℕ → ℕ → Thread
thread_in l p = record {
  period = duration_in l p;
  deadline = duration_in l (p + 1);
  bcet = duration_in l (p + 2);
  wcet = duration_in l (p + 3);
  modes = byte_in l (p + 4);
  critical = byte_in l (p + 5);
  first = byte_in l (p + 6);
}

unfoldable pub owned_in : List ℕ → ℕ → Owned
owned_in l p = record { owner = byte_in l p; start = value_in l (p + 1) }

unfoldable pub connection_in : List ℕ → ℕ → Connection
connection_in l p = record { kind = byte_in l p; source = short_in l (p + 1); target = short_in l (p + 2); modes = byte_in l (p + 3) }

unfoldable pub switch_in : List ℕ → ℕ → ModeTransition
switch_in l p = record { from = byte_in l p; to = byte_in l (p + 1); h1 = duration_in l (p + 2); h2 = duration_in l (p + 3) }

unfoldable pub transition_in : List ℕ → ℕ → Transition
transition_in l p = record { thread = byte_in l p; from = byte_in l (p + 1); to = byte_in l (p + 2); atoms = byte_in l (p + 3); assignments = byte_in l (p + 4) }

unfoldable pub atom_in : List ℕ → ℕ → Atom
atom_in l p = record { op = byte_in l p; tag = byte_in l (p + 1); number = short_in l (p + 2); right = operand_in l (p + 3) }

unfoldable pub assignment_in : List ℕ → ℕ → Assignment
assignment_in l p = record { tag = byte_in l p; number = short_in l (p + 1); op = byte_in l (p + 2); first = operand_in l (p + 3); second = operand_in l (p + 5) }

-- ---- the items of a kind
unfoldable pub threads_in : List ℕ → List Thread
threads_in l = list_below max_threads (λ i. thread_in l (threads_from + i * thread_size))

unfoldable pub inputs_in : List ℕ → List Owned
inputs_in l = list_below max_inputs (λ i. owned_in l (inputs_from + i * owned_size))

unfoldable pub outputs_in : List ℕ → List ℕ
outputs_in l = list_below max_outputs (λ i. byte_in l (outputs_from + i))

unfoldable pub locals_in : List ℕ → List Owned
locals_in l = list_below max_locals (λ i. owned_in l (locals_from + i * owned_size))

unfoldable pub connections_in : List ℕ → List Connection
connections_in l = list_below max_connections (λ i. connection_in l (connections_from + i * connection_size))

unfoldable pub switches_in : List ℕ → List ModeTransition
switches_in l = list_below max_switches (λ i. switch_in l (switches_from + i * switch_size))

unfoldable pub transitions_in : List ℕ → List Transition
transitions_in l = list_below max_transitions (λ i. transition_in l (transitions_from + i * transition_size))

unfoldable pub atoms_in : List ℕ → List Atom
atoms_in l = list_below max_times (λ i. atom_in l (atoms_from + i * atom_size))

unfoldable pub assignments_in : List ℕ → List Assignment
assignments_in l = list_below max_times (λ i. assignment_in l (assignments_from + i * assignment_size))

-- ---- the model
unfoldable pub timing_in : List ℕ → Timing
timing_in l = record {
  modes = byte_in l modes_place;
  initial = byte_in l initial_place;
  threads = get_or l threads_place 0;
  thread = threads_in l;
  inputs = get_or l inputs_place 0;
  input = inputs_in l;
  outputs = get_or l outputs_place 0;
  output = outputs_in l;
  locals = get_or l locals_place 0;
  local = locals_in l;
  connections = get_or l connections_place 0;
  connection = connections_in l;
  switches = get_or l switches_place 0;
  switch = switches_in l;
}

unfoldable pub behavior_in : List ℕ → Behavior
behavior_in l = record {
  transitions = get_or l transitions_place 0;
  transition = transitions_in l;
  atom = atoms_in l;
  assignment = assignments_in l;
}

abbrev pub model_in : List ℕ → Model
model_in l = record { timing = timing_in l; behavior = behavior_in l }
