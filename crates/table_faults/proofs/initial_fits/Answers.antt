use Rattle.table_format.specs.Reading.{initial_fits}
use Rattle.table_faults.proofs.initial_fits.Goals as goal

pub returns : goal.returns
unfolding initial_fits
returns c = rw c.is_variable.ensures
