use Rattle.std.proofs.Common.{arith, length, refl}
use Rattle.model_writer.specs.Cleared.{cleared_all}
use Rattle.model_writer.proofs.clear.Goals as goal

pub returns : goal.returns
returns c = cleared_all _ (length c.args.model.now) (record { zeros = λ q k. c.fill.ensures.clones q 0 k refl }) (omega (arith, c.fill.ensures.len))
