use Rattle.model_tests.specs.JobLaws.{leave_by}
use Rattle.std.proofs.Common.{◌∙◌}
use Rattle.model_tests.proofs.modes.can_leave.Goals as goal

pub returns : goal.returns
returns c = c.leaves.ensures ∙ rw c.clock_of.ensures (leave_by _ _ _ _ c.switch_at.ensures)
