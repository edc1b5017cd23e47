use Rattle.table_format.specs.Reading.{head_fits}
use Rattle.table_faults.proofs.head_fits.Goals as goal

pub returns : goal.returns
unfolding head_fits
returns c = rw (c.longest.ensures, c.has_rules.ensures)
