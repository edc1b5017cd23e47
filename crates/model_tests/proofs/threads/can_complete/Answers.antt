use Rattle.model_tests.specs.JobLaws.{complete_by}
use Rattle.std.proofs.Common.{◌∙◌}
use Rattle.model_tests.proofs.threads.can_complete.Goals as goal

pub returns : goal.returns
returns c = c.completes.ensures ∙ complete_by _ _ _ c.job_of.ensures
