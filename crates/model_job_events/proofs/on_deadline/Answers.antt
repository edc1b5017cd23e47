use Rattle.model_job_events.specs.JobAnswers.{deadline_made, deadline_failed}
use Rattle.model_job_events.proofs.on_deadline.Goals as goal

pub returns-then-t-threads : goal.returns-then-t-threads
returns-then-t-threads c = deadline_made _ _ _ _ _ _ c.threads.ensures c.can_meet_deadline.ensures c.if-t-threads.true c.meet_deadline.ensures

pub returns : goal.returns
returns c = deadline_failed _ _ _ _ _ c.threads.ensures c.can_meet_deadline.ensures c.if-t-threads.false
