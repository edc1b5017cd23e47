use Rattle.model_job_events.specs.JobAnswers.{miss_made, miss_failed}
use Rattle.model_job_events.proofs.on_miss.Goals as goal

pub returns-then-t-threads : goal.returns-then-t-threads
returns-then-t-threads c = miss_made _ _ _ _ _ _ c.threads.ensures c.can_miss.ensures c.if-t-threads.true (c.miss.ensures _)

pub returns : goal.returns
returns c = miss_failed _ _ _ _ _ c.threads.ensures c.can_miss.ensures c.if-t-threads.false
