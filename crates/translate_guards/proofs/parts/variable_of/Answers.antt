use Rattle.translate_guards.specs.Operands.{variable_input, variable_local, variable_output}
use Rattle.translate_guards.proofs.parts.variable_of.Goals as goal

pub returns-then-tag-eq-INPUT_TAG : goal.returns-then-tag-eq-INPUT_TAG
returns-then-tag-eq-INPUT_TAG c = variable_input _ _ _ c.if-tag-eq-INPUT_TAG.true c.input_var.ensures

pub returns-then-tag-eq-LOCAL_TAG : goal.returns-then-tag-eq-LOCAL_TAG
returns-then-tag-eq-LOCAL_TAG c = variable_local _ _ _ c.if-tag-eq-INPUT_TAG.false c.if-tag-eq-LOCAL_TAG.true c.local_var.ensures

pub returns : goal.returns
returns c = variable_output _ _ _ c.if-tag-eq-INPUT_TAG.false c.if-tag-eq-LOCAL_TAG.false c.output_var.ensures
