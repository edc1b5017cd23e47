use Rattle.std.proofs.Common.{◌∙◌, rules}
use Rattle.table_semantics.proofs.RuleLaws.{operand_constant, operand_variable, operand_length}
use Rattle.table_rules.proofs.operand_value.Goals as goal

pub returns-in-0 : goal.returns-in-0
returns-in-0 c = operand_constant _ _ (record { tag = c.args.tag; value = c.args.x }) c.in-0.is

pub returns-in-1 : goal.returns-in-1
returns-in-1 c = c.value_in.ensures ∙ operand_variable _ _ (record { tag = c.args.tag; value = c.args.x }) _ c.in-1.is c.bits.ensures

pub returns-in_default : goal.returns-in_default
returns-in_default c = c.value_of.ensures ∙ operand_length _ _ (record { tag = c.args.tag; value = c.args.x }) (search rules) (search rules)
