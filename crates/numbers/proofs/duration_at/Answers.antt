use mathlib.Core.Path.{ap}
use Rattle.numbers.specs.Values.{duration}
use Rattle.numbers.proofs.duration_at.Goals as goal

pub returns : goal.returns
returns c = ap duration c.u32_at.ensures
