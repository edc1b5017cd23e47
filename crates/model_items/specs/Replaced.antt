-- A model with item i of a kind replaced; past the room, the model as it was.
use Rattle.std.specs.Prelude.{ℕ}
use Rattle.numbers.specs.Lists.{store}
use Rattle.model_format.specs.declared.Thread.{Thread}
use Rattle.model_format.specs.declared.Owned.{Owned}
use Rattle.model_format.specs.declared.Connection.{Connection}
use Rattle.model_format.specs.declared.ModeTransition.{ModeTransition}
use Rattle.model_format.specs.declared.Transition.{Transition}
use Rattle.model_format.specs.declared.Atom.{Atom}
use Rattle.model_format.specs.declared.Assignment.{Assignment}
use Rattle.model_format.specs.declared.Model.{Model}
use Rattle.model_format.specs.Reading.{with_timing, with_behavior, with_counts}
use Rattle.model_format.specs.Model.{transition_at, with_threads, with_inputs, with_outputs, with_locals, with_connections, with_switches, max_threads, max_inputs, max_outputs, max_locals, max_connections, max_switches, max_transitions, max_times}

abbrev pub with_thread : Model → ℕ → Thread → Model
with_thread m i x = with_timing m (with_threads m.timing m.timing.threads (store max_threads m.timing.thread i x))

abbrev pub with_input : Model → ℕ → Owned → Model
with_input m i x = with_timing m (with_inputs m.timing m.timing.inputs (store max_inputs m.timing.input i x))

abbrev pub with_output : Model → ℕ → ℕ → Model
with_output m i x = with_timing m (with_outputs m.timing m.timing.outputs (store max_outputs m.timing.output i x))

abbrev pub with_local : Model → ℕ → Owned → Model
with_local m i x = with_timing m (with_locals m.timing m.timing.locals (store max_locals m.timing.local i x))

abbrev pub with_connection : Model → ℕ → Connection → Model
with_connection m i x = with_timing m (with_connections m.timing m.timing.connections (store max_connections m.timing.connection i x))

abbrev pub with_switch : Model → ℕ → ModeTransition → Model
with_switch m i x = with_timing m (with_switches m.timing m.timing.switches (store max_switches m.timing.switch i x))

abbrev pub with_transition : Model → ℕ → Transition → Model
with_transition m i x = with_behavior m (record { transitions = m.behavior.transitions; transition = store max_transitions m.behavior.transition i x; atom = m.behavior.atom; assignment = m.behavior.assignment })

-- with another count of its atoms, or of its assignments
abbrev pub with_atom_count : Model → ℕ → ℕ → Model
with_atom_count m i n = let x = transition_at m.behavior i in with_transition m i (with_counts x n x.assignments)

abbrev pub with_assignment_count : Model → ℕ → ℕ → Model
with_assignment_count m i n = let x = transition_at m.behavior i in with_transition m i (with_counts x x.atoms n)

abbrev pub with_atom : Model → ℕ → Atom → Model
with_atom m i x = with_behavior m (record { transitions = m.behavior.transitions; transition = m.behavior.transition; atom = store max_times m.behavior.atom i x; assignment = m.behavior.assignment })

abbrev pub with_assignment : Model → ℕ → Assignment → Model
with_assignment m i x = with_behavior m (record { transitions = m.behavior.transitions; transition = m.behavior.transition; atom = m.behavior.atom; assignment = store max_times m.behavior.assignment i x })
