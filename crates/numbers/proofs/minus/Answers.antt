use borrow.Author.Rules.{rules}
use Rattle.numbers.specs.ValueLaws.{difference_saturated}
use Rattle.numbers.proofs.minus.Goals as goal

pub returns : goal.returns
returns c = difference_saturated c.args.a c.args.b (search rules) (search rules) _ c.saturating_sub.ensures
