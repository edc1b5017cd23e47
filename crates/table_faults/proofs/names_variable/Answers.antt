use Rattle.table_faults.specs.FieldTests.{variable_named}
use Rattle.table_faults.proofs.names_variable.Goals as goal

pub returns : goal.returns
returns c = variable_named c.args.value.0 _ _ _ c.bits.ensures c.is_natural.ensures c.is_variable.ensures
