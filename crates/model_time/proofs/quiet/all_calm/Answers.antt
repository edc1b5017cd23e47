use Rattle.std.proofs.Common.{arith}
use Rattle.model_time.specs.CalmLaws.{calm_as}
use Rattle.model_time.specs.QuietLaws.{calm_end}
use Rattle.model_time.proofs.quiet.all_calm.Goals as goal

pub returns : goal.returns
returns c = (c.loop-t.invariant.0, calm_as _ _ _ _ _ _ c.clock_of-clock.ensures (calm_end _ _ _ _ _ _ (rw c.threads.ensures at c.min-count.ensures) c.loop-t.invariant.1 (omega arith)))
