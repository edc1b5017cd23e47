use Rattle.model_tests.specs.JobLaws.{activate_by}
use Rattle.std.proofs.Common.{◌∙◌}
use Rattle.model_tests.proofs.threads.can_activate.Goals as goal

pub returns : goal.returns
returns c = c.activates.ensures ∙ activate_by _ _ _ c.job_of.ensures
