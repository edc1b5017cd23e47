use Rattle.records.specs.Laws.{operand_within, operand_past}
use Rattle.records.specs.Laws.{operand_past}
use Rattle.records.proofs.operand_at.Goals as goal

pub returns-then-at-bytes : goal.returns-then-at-bytes
returns-then-at-bytes c = operand_within c.args.bytes.now _ _ c.value_at-value.ensures

pub returns-else-at-bytes : goal.returns-else-at-bytes
returns-else-at-bytes c = operand_past c.args.bytes.now _ _ c.if-at-bytes.false c.value_of-value.ensures
