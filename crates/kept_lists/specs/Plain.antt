-- A plain state: each part is one that a list of numbers can stand for. Through the changes of one part.
use Rattle.std.specs.Prelude.{◌≡◌, Bool, List, ℕ, ◌%◌}
use Rattle.std.proofs.Math.Path.{refl}
use Rattle.numbers.specs.declared.Duration.{Duration}
use Rattle.numbers.specs.declared.Value.{Value}
use Rattle.numbers.specs.Values.{value, signed, bits_of, duration}
use Rattle.model_format.specs.declared.Timing.{Timing}
use Rattle.model_format.specs.Model.{max_threads, max_inputs, max_outputs, max_locals, max_connections}
use Rattle.model_semantics.specs.declared.Clock.{Clock}
use Rattle.model_semantics.specs.declared.Threads.{Threads}
use Rattle.model_semantics.specs.declared.Ports.{Ports}
use Rattle.model_semantics.specs.declared.State.{State}
use Rattle.model_semantics.specs.State.{with_live, with_ports, with_now, with_entered, with_mode, with_phase, with_cpu, with_active, with_code, with_dispatch_time, with_job, with_spent, with_behavior, with_missed}
use Rattle.kept_lists.specs.Arrays.{Array, stored}

-- ---- what a list gives back of a byte, a VALUE, and of anything else
abbrev pub byte : ℕ → ℕ
byte n = n % 256

abbrev pub again : Value → Value
again v = value (signed (bits_of v.0))

abbrev pub whole : {A : Type 0} → A → A
whole a = a

pub record PlainClock (c : Clock) : Type 0 where
  pub mode : byte c.mode ≡ c.mode
  pub phase : byte c.phase ≡ c.phase
  pub pending : byte c.pending ≡ c.pending
  pub cpu : byte c.cpu ≡ c.cpu

pub record PlainThreads (t : Threads) : Type 0 where
  pub active : Array {A = Bool} whole max_threads t.active
  pub code : Array byte max_threads t.code
  pub dispatched : Array {A = Duration} whole max_threads t.dispatched
  pub length : Array {A = Duration} whole max_threads t.length
  pub spent : Array {A = Duration} whole max_threads t.spent
  pub behavior : Array byte max_threads t.behavior
  pub missed : Array {A = ℕ} whole max_threads t.missed

pub record PlainPorts (p : Ports) : Type 0 where
  pub input : Array again max_inputs p.input
  pub buffer : Array again max_inputs p.buffer
  pub output : Array again max_outputs p.output
  pub local : Array again max_locals p.local

pub record Plain (s : State) : Type 0 where
  pub clock : PlainClock s.clock
  pub threads : PlainThreads s.threads
  pub live : Array {A = Bool} whole max_connections s.live
  pub ports : PlainPorts s.ports

module _ (s : State) (p : Plain s) where
  pub plain_live : (l : List Bool) → Array {A = Bool} whole max_connections l → Plain (with_live s l)
  unfolding with_live
  plain_live l h = record { clock = p.clock; threads = p.threads; live = h; ports = p.ports }

  pub plain_ports : (q : Ports) → PlainPorts q → Plain (with_ports s q)
  unfolding with_ports
  plain_ports q h = record { clock = p.clock; threads = p.threads; live = p.live; ports = h }

  pub plain_now : (n : ℕ) → Plain (with_now s n)
  unfolding with_now
  plain_now n = record { clock = record { mode = p.clock.mode; phase = p.clock.phase; pending = p.clock.pending; cpu = p.clock.cpu }; threads = p.threads; live = p.live; ports = p.ports }

  pub plain_entered : (n : ℕ) → Plain (with_entered s n)
  unfolding with_entered
  plain_entered n = record { clock = record { mode = p.clock.mode; phase = p.clock.phase; pending = p.clock.pending; cpu = p.clock.cpu }; threads = p.threads; live = p.live; ports = p.ports }

  pub plain_mode : (n : ℕ) → byte n ≡ n → Plain (with_mode s n)
  unfolding with_mode
  plain_mode n h = record { clock = record { mode = h; phase = p.clock.phase; pending = p.clock.pending; cpu = p.clock.cpu }; threads = p.threads; live = p.live; ports = p.ports }

  pub plain_phase : (n k : ℕ) → byte n ≡ n → byte k ≡ k → Plain (with_phase s n k)
  unfolding with_phase
  plain_phase n k h j = record { clock = record { mode = p.clock.mode; phase = h; pending = j; cpu = p.clock.cpu }; threads = p.threads; live = p.live; ports = p.ports }

  pub plain_cpu : (m : Timing) (t n : ℕ) → byte n ≡ n → Plain (with_cpu m s t n)
  unfolding with_cpu
  plain_cpu m t n h = record { clock = record { mode = p.clock.mode; phase = p.clock.phase; pending = p.clock.pending; cpu = h }; threads = p.threads; live = p.live; ports = p.ports }

  pub plain_active : (l : List Bool) → Array {A = Bool} whole max_threads l → Plain (with_active s l)
  unfolding with_active
  plain_active l h = record { clock = p.clock; threads = record { active = h; code = p.threads.code; dispatched = p.threads.dispatched; length = p.threads.length; spent = p.threads.spent; behavior = p.threads.behavior; missed = p.threads.missed }; live = p.live; ports = p.ports }

  pub plain_code : (t n : ℕ) → byte n ≡ n → Plain (with_code s t n)
  unfolding with_code
  plain_code t n h = record { clock = p.clock; threads = record { active = p.threads.active; code = stored byte max_threads _ t n h p.threads.code; dispatched = p.threads.dispatched; length = p.threads.length; spent = p.threads.spent; behavior = p.threads.behavior; missed = p.threads.missed }; live = p.live; ports = p.ports }

  pub plain_dispatched : (t n : ℕ) → Plain (with_dispatch_time s t n)
  unfolding with_dispatch_time
  plain_dispatched t n = record { clock = p.clock; threads = record { active = p.threads.active; code = p.threads.code; dispatched = stored whole max_threads _ t (duration n) refl p.threads.dispatched; length = p.threads.length; spent = p.threads.spent; behavior = p.threads.behavior; missed = p.threads.missed }; live = p.live; ports = p.ports }

  pub plain_job : (t n k : ℕ) → Plain (with_job s t n k)
  unfolding with_job
  plain_job t n k = record { clock = p.clock; threads = record { active = p.threads.active; code = p.threads.code; dispatched = p.threads.dispatched; length = stored whole max_threads _ t (duration n) refl p.threads.length; spent = stored whole max_threads _ t (duration k) refl p.threads.spent; behavior = p.threads.behavior; missed = p.threads.missed }; live = p.live; ports = p.ports }

  pub plain_spent : (t n : ℕ) → Plain (with_spent s t n)
  unfolding with_spent
  plain_spent t n = record { clock = p.clock; threads = record { active = p.threads.active; code = p.threads.code; dispatched = p.threads.dispatched; length = p.threads.length; spent = stored whole max_threads _ t (duration n) refl p.threads.spent; behavior = p.threads.behavior; missed = p.threads.missed }; live = p.live; ports = p.ports }

  pub plain_behavior : (t n : ℕ) → byte n ≡ n → Plain (with_behavior s t n)
  unfolding with_behavior
  plain_behavior t n h = record { clock = p.clock; threads = record { active = p.threads.active; code = p.threads.code; dispatched = p.threads.dispatched; length = p.threads.length; spent = p.threads.spent; behavior = stored byte max_threads _ t n h p.threads.behavior; missed = p.threads.missed }; live = p.live; ports = p.ports }

  pub plain_missed : (t n : ℕ) → Plain (with_missed s t n)
  unfolding with_missed
  plain_missed t n = record { clock = p.clock; threads = record { active = p.threads.active; code = p.threads.code; dispatched = p.threads.dispatched; length = p.threads.length; spent = p.threads.spent; behavior = p.threads.behavior; missed = stored whole max_threads _ t n refl p.threads.missed }; live = p.live; ports = p.ports }
