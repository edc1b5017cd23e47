use Rattle.model_job_events.specs.JobAnswers.{complete_made, complete_failed}
use Rattle.model_job_events.proofs.on_complete.Goals as goal

pub returns-then-t-threads : goal.returns-then-t-threads
returns-then-t-threads c = complete_made _ _ _ _ _ _ c.threads.ensures c.can_complete.ensures c.if-t-threads.true c.complete.ensures

pub returns : goal.returns
returns c = complete_failed _ _ _ _ _ c.threads.ensures c.can_complete.ensures c.if-t-threads.false
