use Rattle.table_format.specs.Reading.{update_names}
use Rattle.table_faults.proofs.update_names.Goals as goal

pub returns : goal.returns
unfolding update_names
returns c = rw (c.is_variable-condition_there.ensures, c.is_variable-target_there.ensures, c.operand_names-first_names.ensures, c.operand_names-second_names.ensures)
