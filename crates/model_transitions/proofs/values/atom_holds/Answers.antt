use Rattle.model_transitions.specs.OperandLaws.{atom_by}
use Rattle.model_transitions.proofs.values.atom_holds.Goals as goal

pub returns : goal.returns
returns c = atom_by _ _ _ _ _ c.left_value-left.ensures c.operand_value-right.ensures c.compares.ensures
