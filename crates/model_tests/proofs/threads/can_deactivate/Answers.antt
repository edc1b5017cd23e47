use Rattle.model_tests.specs.JobLaws.{deactivate_active, deactivate_by}
use Rattle.std.proofs.Common.{◌∙◌}
use Rattle.model_tests.proofs.threads.can_deactivate.Goals as goal

pub returns-then-job : goal.returns-then-job
returns-then-job c = deactivate_active _ _ _ _ c.job_of-job.ensures c.if-job.true

pub returns : goal.returns
returns c = c.deactivates.ensures ∙ deactivate_by _ _ _ _ c.job_of-job.ensures _ c.thread_at.ensures
