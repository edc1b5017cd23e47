use Rattle.model_time.specs.QuietLaws.{never_multiple, no_multiple}
use Rattle.std.proofs.Common.{arith}
use Rattle.model_time.proofs.calm.to_multiple.Goals as goal

pub returns-then-period-eq0 : goal.returns-then-period-eq0
returns-then-period-eq0 c = (omega arith, never_multiple _ _ _ c.if-period-eq0.true)

pub returns : goal.returns
returns c = (omega (arith, c.min.ensures), no_multiple _ _ _ c.if-period-eq0.false c.if-rest-eq0.false (omega (arith, c.min.ensures)))
