use Rattle.model_transitions.specs.OperandLaws.{assigned_by}
use Rattle.model_transitions.proofs.values.assigned_value.Goals as goal

pub returns : goal.returns
returns c = assigned_by _ _ _ _ _ c.operand_value-first.ensures c.operand_value-second.ensures c.combine.ensures
