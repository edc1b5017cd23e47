use Rattle.state_settling.specs.Passes.{a_byte}
use Rattle.state_settling.proofs.byte.Goals as goal

pub returns : goal.returns
returns c = a_byte _
