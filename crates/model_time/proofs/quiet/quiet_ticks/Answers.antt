use Rattle.std.proofs.Common.{arith}
use Rattle.model_time.specs.QuietLaws.{quiet_all}
use Rattle.model_time.proofs.quiet.quiet_ticks.Goals as goal

pub returns-else-calm-eq0 : goal.returns-else-calm-eq0
returns-else-calm-eq0 c = (omega arith, (omega (arith, c.all_calm-calm.ensures.0, c.switches_calm-most.ensures.0), quiet_all _ _ _ _ c.all_calm-calm.ensures.0 c.switches_calm-most.ensures.1 c.all_calm-calm.ensures.1))
