use Rattle.model_job_events.specs.JobAnswers.{complete_is}
use Rattle.model_job_events.proofs.complete.Goals as goal

pub returns : goal.returns
returns c = complete_is _ _ _ _ _ _ c.take_transition.ensures c.send.ensures (c.end_job.ensures _)
