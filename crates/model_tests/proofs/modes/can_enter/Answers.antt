use Rattle.model_tests.specs.JobLaws.{enter_by}
use Rattle.std.proofs.Common.{◌∙◌}
use Rattle.model_tests.proofs.modes.can_enter.Goals as goal

pub returns : goal.returns
returns c = c.enters.ensures ∙ rw c.clock_of.ensures (enter_by _ _ _ _ c.switch_at.ensures)
