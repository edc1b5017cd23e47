use Rattle.std.proofs.Common.{◌∙◌}
use Rattle.table_search.specs.Enabled.{found_other, found_disabled, found_enabled}
use Rattle.table_search.proofs.found_rule.Goals as goal

pub returns-then-not-is_asked : goal.returns-then-not-is_asked
returns-then-not-is_asked c = found_other _ _ c.args.event _ _ _ _ c.is_asked.ensures c.if-not-is_asked.true

pub returns-then-not-is_enabled : goal.returns-then-not-is_enabled
returns-then-not-is_enabled c = found_disabled _ _ c.args.event _ _ _ _ c.is_asked.ensures c.if-not-is_asked.false _ c.is_enabled.ensures c.if-not-is_enabled.true

pub returns : goal.returns
returns c = c.found_one_more.ensures ∙ found_enabled _ _ c.args.event _ _ _ _ c.is_asked.ensures c.if-not-is_asked.false _ c.is_enabled.ensures c.if-not-is_enabled.false
