use Rattle.model_effects.specs.Events.{stopped_is, left_is}
use Rattle.model_effects.proofs.deactivate.Goals as goal

pub returns-then-has_job : goal.returns-then-has_job
returns-then-has_job c = stopped_is _ _ _ _ _ c.code_of.ensures c.has_job.ensures c.if-has_job.true c.end_job.ensures

pub returns-else-has_job : goal.returns-else-has_job
returns-else-has_job c = left_is _ _ _ _ _ c.code_of.ensures c.has_job.ensures c.if-has_job.false c.put_code.ensures
