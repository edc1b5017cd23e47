use Rattle.std.proofs.Common.{◌∙◌, rules}
use Rattle.table_faults.specs.FieldTests.{operand_constant, operand_variable, operand_chosen}
use Rattle.table_faults.proofs.operand_fits.Goals as goal

pub returns-in-0 : goal.returns-in-0
returns-in-0 c = operand_constant _ _ c.in-0.is

pub returns-in-1 : goal.returns-in-1
returns-in-1 c = c.names_variable.ensures ∙ operand_variable _ _ c.in-1.is

pub returns-in_default : goal.returns-in_default
returns-in_default c = operand_chosen _ _ (search rules) (search rules)
