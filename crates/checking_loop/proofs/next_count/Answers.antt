use Rattle.std.proofs.Common.{arith}
use Rattle.checking_loop.specs.Laws.{count_saturated}
use Rattle.checking_loop.proofs.next_count.Goals as goal

pub returns : goal.returns
returns c = let f = c.ranges.count.fits in count_saturated _ _ (omega arith) c.saturating_add.ensures
