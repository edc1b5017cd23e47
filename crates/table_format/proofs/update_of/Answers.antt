use Rattle.table_format.specs.Decoded.{update_fields}
use Rattle.table_format.proofs.update_of.Goals as goal

pub returns : goal.returns
returns c = update_fields c.args.part.now _ _ _ _ _ _ c.u16_at.ensures c.item_or.ensures c.u16_at-2.ensures c.item_or-2.ensures
    c.operand_at.ensures c.operand_at-2.ensures
