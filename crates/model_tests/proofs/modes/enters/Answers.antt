use Rattle.model_tests.specs.Jobs.{enters}
use Rattle.model_tests.proofs.modes.enters.Goals as goal

pub returns : goal.returns
unfolding enters
returns c = rw c.is_multiple.ensures
