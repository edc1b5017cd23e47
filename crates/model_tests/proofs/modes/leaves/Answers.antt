use Rattle.model_tests.specs.Jobs.{leaves}
use Rattle.model_tests.proofs.modes.leaves.Goals as goal

pub returns : goal.returns
unfolding leaves
returns c = rw (c.is_multiple.ensures, c.ne-late.ensures)
