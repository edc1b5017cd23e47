use Rattle.std.proofs.Common.{refl}
use Rattle.model_transitions.specs.OperandLaws.{operand_constant, operand_input, operand_local}
use Rattle.model_transitions.proofs.values.operand_value.Goals as goal

pub returns-then-operand-eq-CONSTANT : goal.returns-then-operand-eq-CONSTANT
returns-then-operand-eq-CONSTANT c = operand_constant _ _ c.if-operand-eq-CONSTANT.true

pub returns-then-operand-eq-INPUT_TAG : goal.returns-then-operand-eq-INPUT_TAG
returns-then-operand-eq-INPUT_TAG c = operand_input _ _ _ _ _ c.bits-i.ensures refl c.if-operand-eq-CONSTANT.false c.if-operand-eq-INPUT_TAG.true c.input_value.ensures

pub returns : goal.returns
returns c = operand_local _ _ _ _ _ c.bits-i.ensures refl c.if-operand-eq-CONSTANT.false c.if-operand-eq-INPUT_TAG.false c.local_value.ensures
