use Rattle.std.proofs.Common.{arith}
use Rattle.model_time.specs.QuietLaws.{not_done}
use Rattle.model_time.proofs.calm.to_done.Goals as goal

pub returns : goal.returns
returns c = (omega (arith, c.min.ensures), not_done _ _ _ (omega (arith, c.min.ensures, c.saturating_sub.ensures)))
