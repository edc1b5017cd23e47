use Rattle.table_format.specs.Reading.{update_fits}
use Rattle.table_faults.proofs.update_fits.Goals as goal

pub returns : goal.returns
unfolding update_fits
returns c = rw (c.is_variable-condition_there.ensures, c.is_variable-target_there.ensures, c.operand_fits-first_fits.ensures, c.operand_fits-second_fits.ensures)
