use Rattle.translate_shown.specs.Blocks.{count_same}
use borrow.Author.Rules.{rules}
use Rattle.translate_shown.proofs.count.Goals as goal

pub returns : goal.returns
returns c = count_same c.args.number _ (search rules) c.value_of.ensures
