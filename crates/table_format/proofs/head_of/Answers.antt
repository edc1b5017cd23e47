use Rattle.table_format.specs.Decoded.{head_fields_lem}
use Rattle.table_format.proofs.head_of.Goals as goal

pub returns : goal.returns
returns c = head_fields_lem c.args.part.now _ _ _ _ c.item_or.ensures c.item_or-2.ensures c.u32_at.ensures c.u32_at-2.ensures
