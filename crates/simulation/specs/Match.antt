-- The invariant of demand 3: the variables stand for the state, block by block, with the facts of a run that events need.
use Rattle.std.specs.Prelude.{◌≡◌, true, false, List, ℕ, ◌+◌, ◌-◌, ◌<◌, ◌≤◌, length}
use Rattle.numbers.specs.declared.Value.{Value}
use Rattle.numbers.specs.Values.{natural}
use Rattle.records.specs.Events.{last_clock}
use Rattle.model_format.specs.declared.Timing.{Timing}
use Rattle.model_format.specs.Model.{max_threads, max_inputs, max_outputs, max_locals, max_connections}
use Rattle.model_format.specs.Reading.{longest_time}
use Rattle.model_semantics.specs.declared.State.{State}
use Rattle.model_semantics.specs.State.{is_active, code_of, dispatch_time, length_of, spent_of, behavior_of, missed_of, is_live, input_value, buffer_value, output_value, local_value, now_of}
use Rattle.model_semantics.specs.Tests.{waiting_execution, execution, due_of, last_code}
use Rattle.table_semantics.specs.Rules.{value_of}
use Rattle.table_format.specs.Variables.{variables, now_var, mode_var, phase_var, pending_var, entered_var, cpu_var, active_var, state_var, dispatch_var, due_var, end_var, behavior_var, missed_var, flag_var, input_var, buffer_var, output_var, local_var, clock_vars, spare_vars}
use Rattle.translation.specs.Shown.{bit}
use Rattle.simulation.specs.Compared.{Dispatched}

-- the rooms of a state's arrays
pub record Sized (s : State) : Type 0 where
  pub active : length s.threads.active ≡ max_threads
  pub code : length s.threads.code ≡ max_threads
  pub dispatched : length s.threads.dispatched ≡ max_threads
  pub long : length s.threads.length ≡ max_threads
  pub spent : length s.threads.spent ≡ max_threads
  pub behavior : length s.threads.behavior ≡ max_threads
  pub missed : length s.threads.missed ≡ max_threads
  pub live : length s.live ≡ max_connections
  pub input : length s.ports.input ≡ max_inputs
  pub buffer : length s.ports.buffer ≡ max_inputs
  pub output : length s.ports.output ≡ max_outputs
  pub local : length s.ports.local ≡ max_locals

-- what stands for nothing holds nothing
pub record Blank (m : Timing) (s : State) : Type 0 where
  pub active : (t : ℕ) → m.threads ≤ t → is_active s t ≡ false
  pub code : (t : ℕ) → m.threads ≤ t → code_of s t ≡ 0
  pub dispatched : (t : ℕ) → m.threads ≤ t → dispatch_time s t ≡ 0
  pub behavior : (t : ℕ) → m.threads ≤ t → behavior_of s t ≡ 0
  pub missed : (t : ℕ) → m.threads ≤ t → missed_of s t ≡ 0
  pub live : (c : ℕ) → m.connections ≤ c → is_live s c ≡ false
  pub input : (i : ℕ) → m.inputs ≤ i → input_value s.ports i ≡ natural 0
  pub buffer : (i : ℕ) → m.inputs ≤ i → buffer_value s.ports i ≡ natural 0
  pub output : (o : ℕ) → m.outputs ≤ o → output_value s.ports o ≡ natural 0
  pub local : (v : ℕ) → m.locals ≤ v → local_value s.ports v ≡ natural 0

-- facts of every state that a run reaches
pub record Reached (m : Timing) (d : Dispatched) (s : State) : Type 0 where
  pub clock : now_of s ≤ last_clock
  pub codes : (t : ℕ) → code_of s t ≤ last_code
  pub ran : (t : ℕ) → code_of s t ≡ execution → spent_of s t ≤ length_of s t
  pub long : (t : ℕ) → code_of s t ≡ execution → length_of s t ≤ longest_time
  -- a job in hand was dispatched, not after now and not before it last missed
  pub begun : (t : ℕ) → waiting_execution ≤ code_of s t → d t ≡ true
  pub past : (t : ℕ) → dispatch_time s t ≤ now_of s
  pub missed : (t : ℕ) → missed_of s t ≤ now_of s
  pub missed_before : (t : ℕ) → waiting_execution ≤ code_of s t → missed_of s t ≤ dispatch_time s t

pub record Match (m : Timing) (d : Dispatched) (s : State) (v : List Value) : Type 0 where
  pub size : length v ≡ variables
  pub sized : Sized s
  pub blank : Blank m s
  pub reached : Reached m d s
  pub now : value_of v now_var ≡ natural (now_of s)
  pub mode : value_of v mode_var ≡ natural s.clock.mode
  pub phase : value_of v phase_var ≡ natural s.clock.phase
  pub pending : value_of v pending_var ≡ natural s.clock.pending
  pub entered : value_of v entered_var ≡ natural s.clock.entered.0
  pub cpu : value_of v cpu_var ≡ natural s.clock.cpu
  pub spare : (j : ℕ) → j < spare_vars → value_of v (clock_vars + j) ≡ natural 0
  pub active : (t : ℕ) → t < max_threads → value_of v (active_var t) ≡ natural (bit (is_active s t))
  pub code : (t : ℕ) → t < max_threads → value_of v (state_var t) ≡ natural (code_of s t)
  pub dispatched : (t : ℕ) → t < max_threads → value_of v (dispatch_var t) ≡ natural (dispatch_time s t)
  pub due : (t : ℕ) → t < m.threads → d t ≡ true → value_of v (due_var t) ≡ natural (due_of m s t)
  pub no_due : (t : ℕ) → t < max_threads → m.threads ≤ t → value_of v (due_var t) ≡ natural 0
  pub end : (t : ℕ) → t < m.threads → code_of s t ≡ execution → value_of v (end_var t) ≡ natural (now_of s + (length_of s t - spent_of s t))
  pub no_end : (t : ℕ) → t < max_threads → m.threads ≤ t → value_of v (end_var t) ≡ natural 0
  pub behavior : (t : ℕ) → t < max_threads → value_of v (behavior_var t) ≡ natural (behavior_of s t)
  pub missed : (t : ℕ) → t < max_threads → value_of v (missed_var t) ≡ natural (missed_of s t)
  pub flag : (c : ℕ) → c < max_connections → value_of v (flag_var c) ≡ natural (bit (is_live s c))
  pub input : (i : ℕ) → i < max_inputs → value_of v (input_var i) ≡ input_value s.ports i
  pub buffer : (i : ℕ) → i < max_inputs → value_of v (buffer_var i) ≡ buffer_value s.ports i
  pub output : (o : ℕ) → o < max_outputs → value_of v (output_var o) ≡ output_value s.ports o
  pub local : (i : ℕ) → i < max_locals → value_of v (local_var i) ≡ local_value s.ports i
