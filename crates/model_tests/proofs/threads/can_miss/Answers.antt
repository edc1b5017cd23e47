use Rattle.model_tests.specs.JobLaws.{miss_by}
use Rattle.std.proofs.Common.{◌∙◌}
use Rattle.model_tests.proofs.threads.can_miss.Goals as goal

pub returns : goal.returns
returns c = c.misses.ensures ∙ miss_by _ _ _ _ c.thread_view_of.ensures
