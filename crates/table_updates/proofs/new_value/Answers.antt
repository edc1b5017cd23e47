use Rattle.std.proofs.Common.{◌∙◌}
use Rattle.table_semantics.proofs.RuleLaws.{new_copy, new_combined}
use Rattle.table_updates.proofs.new_value.Goals as goal

pub returns-then-op-eq0 : goal.returns-then-op-eq0
returns-then-op-eq0 c = new_copy _ c.args.part.now _ _ _ _ _ c.item_or-op.ensures c.item_or-s.ensures c.value_at.ensures c.operand_value-a.ensures c.if-op-eq0.true

pub returns : goal.returns
returns c = c.combine.ensures ∙ new_combined _ c.args.part.now _ _ _ _ _ c.item_or-op.ensures c.item_or-s.ensures c.value_at.ensures c.operand_value-a.ensures _ _ _ c.item_or-table.ensures c.value_at-2.ensures c.operand_value-b.ensures
