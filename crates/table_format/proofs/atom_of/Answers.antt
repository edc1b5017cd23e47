use Rattle.table_format.specs.Decoded.{atom_fields_lem}
use Rattle.table_format.proofs.atom_of.Goals as goal

pub returns : goal.returns
returns c = atom_fields_lem c.args.part.now _ _ _ c.item_or.ensures c.u16_at.ensures c.operand_at.ensures
