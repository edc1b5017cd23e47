use Rattle.std.proofs.Common.{arith}
use Rattle.numbers.specs.ValueLaws.{one_more_saturated}
use Rattle.numbers.proofs.one_more.Goals as goal

pub returns : goal.returns
returns c = let f = c.ranges.n.fits in one_more_saturated _ _ (omega arith) c.saturating_add.ensures
