use Rattle.model_transitions.specs.OperandLaws.{left_input, left_local}
use Rattle.model_transitions.proofs.values.left_value.Goals as goal

pub returns-then-atom-eq-INPUT_TAG : goal.returns-then-atom-eq-INPUT_TAG
returns-then-atom-eq-INPUT_TAG c = left_input _ _ _ _ c.from-i.ensures c.if-atom-eq-INPUT_TAG.true c.input_value.ensures

pub returns : goal.returns
returns c = left_local _ _ _ _ c.from-i.ensures c.if-atom-eq-INPUT_TAG.false c.local_value.ensures
