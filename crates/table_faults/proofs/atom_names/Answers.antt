use Rattle.table_format.specs.Reading.{atom_names}
use Rattle.table_faults.proofs.atom_names.Goals as goal

pub returns : goal.returns
unfolding atom_names
returns c = rw (c.is_variable-there.ensures, c.operand_names-names.ensures)
