use borrow.Author.Rules.{rules}
use Rattle.numbers.specs.ValueLaws.{sum_saturated}
use Rattle.numbers.proofs.plus.Goals as goal

pub returns : goal.returns
returns c = sum_saturated c.args.a c.args.b (search rules) (search rules) _ c.saturating_add.ensures
