-- The state of a model: its parts by number, and the state with one part changed.
use Rattle.std.specs.Prelude.{Bool, false, List, ℕ}
use Rattle.numbers.specs.declared.Value.{Value}
use Rattle.numbers.specs.Lists.{item, store}
use Rattle.numbers.specs.Values.{duration, natural}
use Rattle.model_format.specs.declared.Timing.{Timing}
use Rattle.model_format.specs.Model.{max_threads, max_inputs, max_outputs, max_locals, max_connections}
use Rattle.model_semantics.specs.declared.Clock.{Clock}
use Rattle.model_semantics.specs.declared.Threads.{Threads}
use Rattle.model_semantics.specs.declared.Ports.{Ports}
use Rattle.model_semantics.specs.declared.State.{State}

-- "Pending and Cpu 255 (none)"
abbrev pub none : ℕ
none = 255

-- ---- parts
unfoldable pub is_active : State → ℕ → Bool
is_active s t = item max_threads s.threads.active t false

unfoldable pub code_of : State → ℕ → ℕ
code_of s t = item max_threads s.threads.code t 0

unfoldable pub dispatch_time : State → ℕ → ℕ
dispatch_time s t = (item max_threads s.threads.dispatched t (duration 0)).0

unfoldable pub length_of : State → ℕ → ℕ
length_of s t = (item max_threads s.threads.length t (duration 0)).0

unfoldable pub spent_of : State → ℕ → ℕ
spent_of s t = (item max_threads s.threads.spent t (duration 0)).0

unfoldable pub behavior_of : State → ℕ → ℕ
behavior_of s t = item max_threads s.threads.behavior t 0

unfoldable pub missed_of : State → ℕ → ℕ
missed_of s t = item max_threads s.threads.missed t 0

unfoldable pub is_live : State → ℕ → Bool
is_live s c = item max_connections s.live c false

unfoldable pub input_value : Ports → ℕ → Value
input_value p i = item max_inputs p.input i (natural 0)

unfoldable pub buffer_value : Ports → ℕ → Value
buffer_value p i = item max_inputs p.buffer i (natural 0)

unfoldable pub output_value : Ports → ℕ → Value
output_value p o = item max_outputs p.output o (natural 0)

unfoldable pub local_value : Ports → ℕ → Value
local_value p v = item max_locals p.local v (natural 0)

abbrev pub now_of : State → ℕ
now_of s = s.clock.now.0

-- who holds the processor that runs thread t; there is one
abbrev pub cpu_for : Timing → State → ℕ → ℕ
cpu_for m s t = s.clock.cpu

-- ---- changes
abbrev pub with_clock : State → Clock → State
with_clock s c = record { clock = c; threads = s.threads; live = s.live; ports = s.ports }

abbrev pub with_threads : State → Threads → State
with_threads s x = record { clock = s.clock; threads = x; live = s.live; ports = s.ports }

unfoldable pub with_live : State → List Bool → State
with_live s l = record { clock = s.clock; threads = s.threads; live = l; ports = s.ports }

unfoldable pub with_ports : State → Ports → State
with_ports s p = record { clock = s.clock; threads = s.threads; live = s.live; ports = p }

unfoldable pub with_now : State → ℕ → State
with_now s n = with_clock s (record { now = duration n; entered = s.clock.entered; mode = s.clock.mode; phase = s.clock.phase; pending = s.clock.pending; cpu = s.clock.cpu })

unfoldable pub with_entered : State → ℕ → State
with_entered s n = with_clock s (record { now = s.clock.now; entered = duration n; mode = s.clock.mode; phase = s.clock.phase; pending = s.clock.pending; cpu = s.clock.cpu })

unfoldable pub with_mode : State → ℕ → State
with_mode s mode = with_clock s (record { now = s.clock.now; entered = s.clock.entered; mode = mode; phase = s.clock.phase; pending = s.clock.pending; cpu = s.clock.cpu })

unfoldable pub with_phase : State → ℕ → ℕ → State
with_phase s phase pending = with_clock s (record { now = s.clock.now; entered = s.clock.entered; mode = s.clock.mode; phase = phase; pending = pending; cpu = s.clock.cpu })

unfoldable pub with_cpu : Timing → State → ℕ → ℕ → State
with_cpu m s t cpu = with_clock s (record { now = s.clock.now; entered = s.clock.entered; mode = s.clock.mode; phase = s.clock.phase; pending = s.clock.pending; cpu = cpu })

unfoldable pub with_active : State → List Bool → State
with_active s l = with_threads s (record { active = l; code = s.threads.code; dispatched = s.threads.dispatched; length = s.threads.length; spent = s.threads.spent; behavior = s.threads.behavior; missed = s.threads.missed })

unfoldable pub with_code : State → ℕ → ℕ → State
with_code s t code = with_threads s (record { active = s.threads.active; code = store max_threads s.threads.code t code; dispatched = s.threads.dispatched; length = s.threads.length; spent = s.threads.spent; behavior = s.threads.behavior; missed = s.threads.missed })

unfoldable pub with_dispatch_time : State → ℕ → ℕ → State
with_dispatch_time s t n = with_threads s (record { active = s.threads.active; code = s.threads.code; dispatched = store max_threads s.threads.dispatched t (duration n); length = s.threads.length; spent = s.threads.spent; behavior = s.threads.behavior; missed = s.threads.missed })

-- Length and Spent
unfoldable pub with_job : State → ℕ → ℕ → ℕ → State
with_job s t length spent = with_threads s (record { active = s.threads.active; code = s.threads.code; dispatched = s.threads.dispatched; length = store max_threads s.threads.length t (duration length); spent = store max_threads s.threads.spent t (duration spent); behavior = s.threads.behavior; missed = s.threads.missed })

unfoldable pub with_spent : State → ℕ → ℕ → State
with_spent s t n = with_threads s (record { active = s.threads.active; code = s.threads.code; dispatched = s.threads.dispatched; length = s.threads.length; spent = store max_threads s.threads.spent t (duration n); behavior = s.threads.behavior; missed = s.threads.missed })

unfoldable pub with_behavior : State → ℕ → ℕ → State
with_behavior s t state = with_threads s (record { active = s.threads.active; code = s.threads.code; dispatched = s.threads.dispatched; length = s.threads.length; spent = s.threads.spent; behavior = store max_threads s.threads.behavior t state; missed = s.threads.missed })

unfoldable pub with_missed : State → ℕ → ℕ → State
with_missed s t n = with_threads s (record { active = s.threads.active; code = s.threads.code; dispatched = s.threads.dispatched; length = s.threads.length; spent = s.threads.spent; behavior = s.threads.behavior; missed = store max_threads s.threads.missed t n })
