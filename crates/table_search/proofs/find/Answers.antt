use Rattle.std.proofs.Common.{◌∙◌}
use Rattle.table_rules.specs.At.{rules_from}
use Rattle.table_search.proofs.find.Goals as goal

pub returns : goal.returns
returns c = c.find_from.ensures ∙ c.find_listed-found.ensures (rules_from c.args.all.table.now c.args.all.rest)
