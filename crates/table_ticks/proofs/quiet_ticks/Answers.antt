use Rattle.std.proofs.Common.{◌∙◌}
use Rattle.table_rules.specs.At.{rules_from}
use Rattle.table_ticks.proofs.quiet_ticks.Goals as goal

pub returns : goal.returns
returns c = c.quiet_from.ensures ∙ c.quiet_listed-m.ensures (rules_from c.args.all.table.now c.args.all.rest)
