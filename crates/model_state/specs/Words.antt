-- A state as a list of numbers, one to each of its parts: where each part stands, and what a list of any content and any length stands for.
use Rattle.std.specs.Prelude.{Bool, not, List, map, ℕ, ◌+◌, ◌%◌, eqb, get_or, take, drop}
use Rattle.numbers.specs.declared.Duration.{Duration}
use Rattle.numbers.specs.declared.Value.{Value}
use Rattle.numbers.specs.Values.{duration, value, signed}
use Rattle.model_format.specs.Model.{max_threads, max_inputs, max_outputs, max_locals, max_connections}
use Rattle.model_semantics.specs.declared.Clock.{Clock}
use Rattle.model_semantics.specs.declared.Threads.{Threads}
use Rattle.model_semantics.specs.declared.Ports.{Ports}
use Rattle.model_semantics.specs.declared.State.{State}

-- ---- places: Now, EnteredAt, Mode, Phase, Pending and Cpu, then each array of the state, one after the other
abbrev pub now_place : ℕ
now_place = 0

abbrev pub entered_place : ℕ
entered_place = 1

abbrev pub mode_place : ℕ
mode_place = 2

abbrev pub phase_place : ℕ
phase_place = 3

abbrev pub pending_place : ℕ
pending_place = 4

abbrev pub cpu_place : ℕ
cpu_place = 5

abbrev pub clock_words : ℕ
clock_words = 6

abbrev pub active_base : ℕ
active_base = clock_words

abbrev pub code_base : ℕ
code_base = active_base + max_threads

abbrev pub dispatched_base : ℕ
dispatched_base = code_base + max_threads

abbrev pub length_base : ℕ
length_base = dispatched_base + max_threads

abbrev pub spent_base : ℕ
spent_base = length_base + max_threads

abbrev pub behavior_base : ℕ
behavior_base = spent_base + max_threads

abbrev pub missed_base : ℕ
missed_base = behavior_base + max_threads

abbrev pub live_base : ℕ
live_base = missed_base + max_threads

abbrev pub input_base : ℕ
input_base = live_base + max_connections

abbrev pub buffer_base : ℕ
buffer_base = input_base + max_inputs

abbrev pub output_base : ℕ
output_base = buffer_base + max_inputs

abbrev pub local_base : ℕ
local_base = output_base + max_outputs

abbrev pub state_words : ℕ
state_words = local_base + max_locals

-- ---- what a number stands for: a byte by its remainder, a mark by being other than 0, a VALUE by its bits
unfoldable pub byte_in : ℕ → ℕ
byte_in n = n % 256

unfoldable pub mark_in : ℕ → Bool
mark_in n = not (eqb n 0)

abbrev pub duration_in : ℕ → Duration
duration_in n = duration n

unfoldable pub value_in : ℕ → Value
value_in n = value (signed n)

abbrev pub number_in : ℕ → ℕ
number_in n = n

-- the array that stands from base on; it ends where the list does
unfoldable pub section : {A : Type 0} → (ℕ → A) → ℕ → ℕ → List ℕ → List A
section f base room l = map f (take room (drop base l))

-- ---- the state; a number past the end of the list is 0
unfoldable pub clock_in : List ℕ → Clock
clock_in l = record {
  now = duration (get_or l now_place 0);
  entered = duration (get_or l entered_place 0);
  mode = byte_in (get_or l mode_place 0);
  phase = byte_in (get_or l phase_place 0);
  pending = byte_in (get_or l pending_place 0);
  cpu = byte_in (get_or l cpu_place 0);
}

unfoldable pub threads_in : List ℕ → Threads
threads_in l = record {
  active = section mark_in active_base max_threads l;
  code = section byte_in code_base max_threads l;
  dispatched = section duration_in dispatched_base max_threads l;
  length = section duration_in length_base max_threads l;
  spent = section duration_in spent_base max_threads l;
  behavior = section byte_in behavior_base max_threads l;
  missed = section number_in missed_base max_threads l;
}

unfoldable pub ports_in : List ℕ → Ports
ports_in l = record {
  input = section value_in input_base max_inputs l;
  buffer = section value_in buffer_base max_inputs l;
  output = section value_in output_base max_outputs l;
  local = section value_in local_base max_locals l;
}

unfoldable pub state_in : List ℕ → State
state_in l = record { clock = clock_in l; threads = threads_in l; live = section mark_in live_base max_connections l; ports = ports_in l }
