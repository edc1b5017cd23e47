-- The tests of a thread on what the code has at hand: its job j, or the view v of the clock, its record and its job.
use Rattle.std.specs.Prelude.{Bool, false, Option, Some, None, cond, ◌&&◌, ◌||◌, not, ℕ, ◌+◌, eqb}
use Rattle.numbers.specs.Lists.{item}
use Rattle.numbers.specs.Multiples.{is_multiple}
use Rattle.model_format.specs.declared.Thread.{Thread}
use Rattle.model_format.specs.declared.Connection.{Connection}
use Rattle.model_format.specs.declared.ModeTransition.{ModeTransition}
use Rattle.model_format.specs.declared.Timing.{Timing}
use Rattle.model_format.specs.Model.{max_outputs, thread_at, immediate, delayed, source_thread}
use Rattle.model_semantics.specs.declared.Clock.{Clock}
use Rattle.model_semantics.specs.declared.State.{State}
use Rattle.model_tests.specs.declared.Job.{Job}
use Rattle.model_tests.specs.declared.ThreadView.{ThreadView}
use Rattle.model_semantics.specs.State.{none, code_of}
use Rattle.model_tests.specs.Parts.{job_of, deactivates}
use Rattle.model_semantics.specs.Tests.{waiting_mode, waiting_dispatch, waiting_execution, execution, completed, is_due, feeds, has_job, runs_beside, comes_beside, awaits_immediate, is_ready, is_free, is_allowed}

unfoldable pub thread_view_of : Timing → State → ℕ → ThreadView
thread_view_of m s t = record { clock = s.clock; thread = thread_at m t; job = job_of s.threads t }

abbrev pub activates : Job → Bool
activates j = j.active && eqb j.code waiting_mode

abbrev pub is_done : Job → Bool
is_done j = eqb j.spent.0 j.length.0

abbrev pub completes : Job → Bool
completes j = eqb j.code execution && is_done j

abbrev pub due_at : Clock → Thread → Job → Bool
due_at k x j = eqb (j.dispatched.0 + x.deadline.0) k.now.0

abbrev pub due_in : ThreadView → Bool
due_in v = due_at v.clock v.thread v.job

abbrev pub periodic_in : ThreadView → Bool
periodic_in v = is_multiple v.clock.now.0 v.thread.period.0

-- the part of DISPATCH that looks at the thread alone
abbrev pub dispatches_alone : ThreadView → Bool
dispatches_alone v = eqb v.job.code waiting_dispatch && (v.job.active && periodic_in v)

abbrev pub meets : ThreadView → Bool
meets v = eqb v.job.code completed && due_in v

abbrev pub misses : ThreadView → Bool
misses v = due_in v && (eqb v.job.code waiting_execution || (eqb v.job.code execution && not (is_done v.job)))

-- Whether clock, code and job leave room for an event of the thread, whatever its connections say.
unfoldable pub may_act : Clock → Thread → Job → Bool
may_act k x j =
    deactivates x j ||
    cond (eqb j.code waiting_mode) j.active
    (cond (eqb j.code waiting_dispatch) (is_multiple k.now.0 x.period.0)
    (cond (eqb j.code waiting_execution) (eqb k.cpu none || due_at k x j)
    (cond (eqb j.code execution) (is_done j || due_at k x j)
    (cond (eqb j.code completed) (due_at k x j) false))))

-- v is the view of a source
abbrev pub due_with_job : ThreadView → Bool
due_with_job v = has_job v.job.code && due_in v

-- and j the thread's own job
abbrev pub beside_runs : ThreadView → Job → Bool
beside_runs v j = (eqb v.job.code waiting_execution || eqb v.job.code execution) && eqb v.job.dispatched.0 j.dispatched.0

abbrev pub beside_comes : ThreadView → Job → Bool
beside_comes v j =
    eqb j.dispatched.0 v.clock.now.0 && (v.job.active && ((eqb v.job.code waiting_mode || eqb v.job.code waiting_dispatch) && periodic_in v))

-- the view of the thread that the connection x comes from
unfoldable pub source_of : Timing → State → Connection → ThreadView
source_of m s x = thread_view_of m s (item max_outputs m.output x.source 0)

-- the view of the thread that connection c comes from, where it is a live one of a kind into thread t
unfoldable pub feeder : Timing → State → ℕ → ℕ → ℕ → Option ThreadView
feeder m s kind t c = cond (feeds m s kind t c) (Some (thread_view_of m s (source_thread m c))) None

-- connection c holds thread t's DISPATCH back, or its START
unfoldable pub holds_dispatch : Timing → State → ℕ → ℕ → Bool
holds_dispatch m s t c = feeds m s delayed t c && (has_job (code_of s (source_thread m c)) && is_due m s (source_thread m c))

unfoldable pub holds_start : Timing → State → ℕ → ℕ → Bool
holds_start m s t c = feeds m s immediate t c && (runs_beside s (source_thread m c) t || comes_beside m s (source_thread m c) t)

-- step k of START's test fails, whatever the others say
unfoldable pub step_fails : Timing → State → ℕ → ℕ → ℕ → Bool
step_fails m s t n k =
    cond (eqb k 1) (not (is_ready m s t))
    (cond (eqb k 2) (not (is_free m s t))
    (cond (eqb k 3) (awaits_immediate m s t)
    (not (is_allowed m t n))))

-- ---- mode transitions: x is the record of q, k the clock
unfoldable pub enters : Clock → ModeTransition → ℕ → Bool
enters k x q = eqb k.phase 1 && (eqb k.pending q && is_multiple k.now.0 x.h1.0)

unfoldable pub leaves : Clock → ModeTransition → ℕ → Bool
leaves k x q = eqb k.phase 2 && (eqb k.pending q && (not (eqb k.now.0 k.entered.0) && is_multiple k.now.0 x.h2.0))
