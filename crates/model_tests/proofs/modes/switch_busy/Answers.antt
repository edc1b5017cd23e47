use Rattle.model_tests.specs.JobLaws.{switch_by}
use Rattle.model_tests.proofs.modes.switch_busy.Goals as goal

pub returns : goal.returns
returns c = switch_by _ _ _ _ _ c.can_enter.ensures c.can_leave.ensures
