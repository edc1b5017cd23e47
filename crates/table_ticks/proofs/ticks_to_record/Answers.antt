use Rattle.std.proofs.Common.{◌∙◌}
use Rattle.table_format.specs.Decoded.{is_head_lem}
use Rattle.table_ticks.specs.Ticking.{record_never, record_first}
use Rattle.table_ticks.proofs.ticks_to_record.Goals as goal

pub returns-then-kind_of-ne-TABLE_RULE : goal.returns-then-kind_of-ne-TABLE_RULE
returns-then-kind_of-ne-TABLE_RULE c = record_never c.args.table.now _ _ _ _ (λ e. c.if-kind_of-ne-TABLE_RULE.true (c.kind_of.ensures ∙ e))

pub returns : goal.returns
returns c = c.ticks_to_rule.ensures ∙
    record_first c.args.table.now _ _ _ _ _ (is_head_lem c.args.part.now _ c.kind_of.ensures c.if-kind_of-ne-TABLE_RULE.false _ c.head_of-head.ensures)
