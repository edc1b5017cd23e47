-- Laws of the effects of a thread's events: the stores, one after the other, are the effect.
use Rattle.std.specs.Prelude.{◌≡◌, Bool, true, false, cond, ℕ, eqb}
use Rattle.std.proofs.Common.{◌∙◌}
use Rattle.numbers.specs.declared.Duration.{Duration}
use Rattle.numbers.specs.Values.{one_more}
use Rattle.model_format.specs.declared.Timing.{Timing}
use Rattle.model_format.specs.Model.{delayed}
use Rattle.model_semantics.specs.declared.State.{State}
use Rattle.model_semantics.specs.State.{none, is_active, code_of, missed_of, with_clock, with_ports, with_cpu, with_code, with_dispatch_time, with_job, with_missed}
use Rattle.model_semantics.specs.Tests.{waiting_mode, waiting_execution, execution, has_job}
use Rattle.model_semantics.specs.Effects.{freeze, dispatch, start, send, end_job, rest_code, meet_deadline, miss, deactivate}

module _ (m : Timing) (s q r : State) (t : ℕ) where
  pub dispatch_is : (p : State) (now : Duration) → now ≡ s.clock.now → p ≡ with_ports s (freeze m s false t) → q ≡ with_code p t waiting_execution → r ≡ with_dispatch_time q t now.0 → r ≡ dispatch m s t
  unfolding dispatch with_ports with_dispatch_time with_code
  dispatch_is p now e f g h = h ∙ rw (g, f, e)

  pub start_is : (p u : State) (id n : ℕ) → t ≡ id → p ≡ with_ports s (freeze m s true t) → q ≡ with_code p t execution → u ≡ with_cpu m q id id → r ≡ with_job u t n 0 → r ≡ start m s id n
  unfolding start with_ports with_job with_cpu with_code
  start_is p u id n e f g h k = k ∙ rw (h, g, f, e)

  pub deadline_is : (code : ℕ) → code ≡ rest_code s t → q ≡ with_ports s (send m s delayed t s.ports) → r ≡ with_code q t code → r ≡ meet_deadline m s t
  unfolding meet_deadline with_ports with_code
  deadline_is code e f g = g ∙ rw (f, e)

  pub miss_is : (k n code : ℕ) → k ≡ missed_of s t → n ≡ one_more k → code ≡ rest_code s t → q ≡ end_job m s t code → r ≡ with_missed q t n → r ≡ miss m s t
  unfolding miss
  miss_is k n code e f g h i = i ∙ rw (h, g, f, e)

-- the processor, if the job ran
unfoldable pub freed : State → Bool → State
freed s ran = cond ran (with_clock s (record { now = s.clock.now; entered = s.clock.entered; mode = s.clock.mode; phase = s.clock.phase; pending = s.clock.pending; cpu = none })) s

module _ (s q : State) (ran : Bool) where
  pub freed_ran : (m : Timing) (t : ℕ) → ran ≡ true → q ≡ with_cpu m s t none → q ≡ freed s ran
  unfolding freed with_cpu
  freed_ran m t h e = e ∙ rw h

pub freed_not : (s : State) (ran : Bool) → ran ≡ false → s ≡ freed s ran
unfolding freed
freed_not s ran h = rw h

pub ended_is : (s p q r : State) (t was code : ℕ) → was ≡ code_of s t → p ≡ freed s (eqb was execution) → q ≡ with_code p t code → r ≡ with_job q t 0 0 →
    (m : Timing) → r ≡ end_job m s t code
unfolding freed end_job with_cpu
ended_is s p q r t was code e f g h m = h ∙ rw (g, f, e)

-- DEACTIVATE: k is the code, b whether a job is in hand
module _ (s r : State) (t k : ℕ) (b : Bool) (e : k ≡ code_of s t) (f : b ≡ has_job k) where
  pub stopped_is : b ≡ true → ((m : Timing) → r ≡ end_job m s t waiting_mode) → (m : Timing) → r ≡ deactivate m s t
  unfolding deactivate
  stopped_is h g m = g m ∙ rw (← e, ← f, h)

  pub left_is : b ≡ false → r ≡ with_code s t waiting_mode → (m : Timing) → r ≡ deactivate m s t
  unfolding deactivate
  left_is h g m = g ∙ rw (← e, ← f, h)

module _ (s : State) (t : ℕ) (a : Bool) (e : a ≡ is_active s t) where
  pub rest_active : a ≡ true → 1 ≡ rest_code s t
  rest_active h = rw (← e, h)

  pub rest_inactive : a ≡ false → 0 ≡ rest_code s t
  rest_inactive h = rw (← e, h)
