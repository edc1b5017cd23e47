-- A state some ticks later, and when no event comes meanwhile.
use Rattle.std.specs.Prelude.{◌≡◌, false, cond, List, ℕ, zero, suc, ◌+◌, ◌<◌, ◌≤◌, eqb}
use Rattle.numbers.specs.declared.Duration.{Duration}
use Rattle.numbers.specs.Lists.{item, store, any_below, fold_below}
use Rattle.numbers.specs.Values.{duration, one_more}
use Rattle.model_format.specs.declared.Thread.{Thread}
use Rattle.model_format.specs.declared.Timing.{Timing}
use Rattle.model_format.specs.Model.{max_threads, thread_at}
use Rattle.model_semantics.specs.declared.Clock.{Clock}
use Rattle.model_semantics.specs.declared.Threads.{Threads}
use Rattle.model_semantics.specs.declared.State.{State}
use Rattle.model_tests.specs.declared.Job.{Job}
use Rattle.model_semantics.specs.State.{now_of, with_now, with_threads}
use Rattle.model_tests.specs.Parts.{job_of}
use Rattle.model_semantics.specs.Tests.{execution, switch_busy, is_busy}
use Rattle.model_tests.specs.Jobs.{may_act}

-- one more, i times
unfoldable pub more_by : ℕ → ℕ → ℕ
more_by zero n = n
more_by (suc i) n = one_more (more_by i n)

-- Spent of the threads below n, i ticks later
abbrev pub spending : ℕ → List ℕ → List Duration → ℕ → List Duration → List Duration
spending i code old t l =
    cond (eqb (item max_threads code t 0) execution) (store max_threads l t (duration (more_by i (item max_threads old t (duration 0)).0))) l

unfoldable pub spent_by : ℕ → List ℕ → List Duration → ℕ → List Duration
spent_by i code old n = fold_below n (spending i code old) old

unfoldable pub with_spents : State → List Duration → State
with_spents s l = with_threads s (record { active = s.threads.active; code = s.threads.code; dispatched = s.threads.dispatched; length = s.threads.length; spent = l; behavior = s.threads.behavior; missed = s.threads.missed })

unfoldable pub later : Timing → ℕ → State → State
later m i s = with_now (with_spents s (spent_by i s.threads.code s.threads.spent m.threads)) (now_of s + i)

-- ---- the clock i ticks later, and a job of which g ticks more have run
abbrev pub clock_after : Clock → ℕ → Clock
clock_after k i = record { now = duration (k.now.0 + i); entered = k.entered; mode = k.mode; phase = k.phase; pending = k.pending; cpu = k.cpu }

abbrev pub spent_after : Job → ℕ → Duration
spent_after j g = cond (eqb j.code execution) (duration (more_by g j.spent.0)) j.spent

abbrev pub job_after : Job → ℕ → Job
job_after j g = record { active = j.active; code = j.code; dispatched = j.dispatched; length = j.length; spent = spent_after j g }

-- the thread x with the job j has no event for n ticks; nor has any thread below t, or any mode transition; nor has the state, but
-- at the first of them
abbrev pub Calm : Clock → Thread → Job → ℕ → Type 0
Calm k x j n = (i g : ℕ) → i < n → g ≤ i → may_act (clock_after k i) x (job_after j g) ≡ false

abbrev pub CalmBelow : Timing → Clock → Threads → ℕ → ℕ → Type 0
CalmBelow m k y t n = (u : ℕ) → u < t → Calm k (thread_at m u) (job_of y u) n

abbrev pub SwitchesCalm : Timing → State → ℕ → Type 0
SwitchesCalm m s n = (i : ℕ) → i < n → any_below m.switches (switch_busy m (later m i s)) ≡ false

abbrev pub Quiet : Timing → State → ℕ → Type 0
Quiet m s n = (i : ℕ) → 0 < i → i < n → is_busy m (later m i s) ≡ false
