-- What the code reads of a state at once, and a test on that.
use Rattle.std.specs.Prelude.{Bool, false, ◌&&◌, ◌||◌, not, ℕ, eqb}
use Rattle.numbers.specs.Lists.{item}
use Rattle.numbers.specs.Values.{duration}
use Rattle.model_format.specs.declared.Thread.{Thread}
use Rattle.model_format.specs.Model.{max_threads}
use Rattle.model_semantics.specs.declared.Threads.{Threads}
use Rattle.model_semantics.specs.Tests.{waiting_dispatch, is_stoppable}
use Rattle.model_tests.specs.declared.Job.{Job}

-- the job of thread t, with its state code
unfoldable pub job_of : Threads → ℕ → Job
job_of x t = record {
  active = item max_threads x.active t false;
  code = item max_threads x.code t 0;
  dispatched = item max_threads x.dispatched t (duration 0);
  length = item max_threads x.length t (duration 0);
  spent = item max_threads x.spent t (duration 0);
}

-- DEACTIVATE's test, of a thread's record and its job
abbrev pub deactivates : Thread → Job → Bool
deactivates x j = not j.active && (eqb j.code waiting_dispatch || is_stoppable x j.code)
