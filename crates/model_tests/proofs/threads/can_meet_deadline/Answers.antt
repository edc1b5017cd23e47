use Rattle.model_tests.specs.JobLaws.{meet_by}
use Rattle.std.proofs.Common.{◌∙◌}
use Rattle.model_tests.proofs.threads.can_meet_deadline.Goals as goal

pub returns : goal.returns
returns c = c.meets.ensures ∙ meet_by _ _ _ _ c.thread_view_of.ensures
