use Rattle.translate_guards.specs.Operands.{operand_constant, operand_variable}
use Rattle.std.proofs.Common.{rules}
use Rattle.translate_guards.proofs.parts.operand_of.Goals as goal

pub returns-then-tag-eq-CONSTANT_TAG : goal.returns-then-tag-eq-CONSTANT_TAG
returns-then-tag-eq-CONSTANT_TAG c = operand_constant _ c.if-tag-eq-CONSTANT_TAG.true

pub overflow_cast-number : goal.overflow_cast-number
overflow_cast-number c = let h = c.requires.number c.if-tag-eq-CONSTANT_TAG.false in let e = c.bits-number.ensures in search rules

pub variable_of-named-requires : goal.variable_of-named-requires
variable_of-named-requires c = rw c.bits-number.ensures (c.requires.number c.if-tag-eq-CONSTANT_TAG.false)

pub returns : goal.returns
returns c = operand_variable _ _ _ _ c.if-tag-eq-CONSTANT_TAG.false c.bits-number.ensures c.variable_of-named.ensures c.variable.ensures
