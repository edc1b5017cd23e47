use Rattle.model_job_events.specs.JobAnswers.{dispatch_made, dispatch_failed}
use Rattle.model_job_events.proofs.on_dispatch.Goals as goal

pub returns-then-t-threads : goal.returns-then-t-threads
returns-then-t-threads c = dispatch_made _ _ _ _ _ _ c.threads.ensures c.can_dispatch.ensures c.if-t-threads.true c.dispatch.ensures

pub returns : goal.returns
returns c = dispatch_failed _ _ _ _ _ c.threads.ensures c.can_dispatch.ensures c.if-t-threads.false
