use Rattle.table_faults.proofs.operand_names.Goals as goal

pub returns : goal.returns
returns c = rw c.names_variable.ensures
