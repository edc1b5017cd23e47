use Rattle.std.proofs.Common.{◌∙◌}
use Rattle.table_format.specs.Decoded.{is_head_lem}
use Rattle.table_search.specs.Enabled.{found_head, found_same}
use Rattle.table_search.proofs.found_after.Goals as goal

pub returns-then-kind_of-ne-TABLE_RULE : goal.returns-then-kind_of-ne-TABLE_RULE
returns-then-kind_of-ne-TABLE_RULE c = found_same c.args.table.now _ c.args.event _ _ _ (λ e. c.if-kind_of-ne-TABLE_RULE.true (c.kind_of.ensures ∙ e))

pub returns : goal.returns
returns c = c.found_rule.ensures ∙
    found_head c.args.table.now _ c.args.event _ _ _ _ (is_head_lem c.args.part.now _ c.kind_of.ensures c.if-kind_of-ne-TABLE_RULE.false _ c.head_of.ensures)
