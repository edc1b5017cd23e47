use Rattle.table_rules.specs.Bits.{values_store}
use Rattle.table_machine.proofs.put_initial.Goals as goal

pub returns : goal.returns
returns c = rw (c.put.ensures, values_store, c.bits_of.ensures)
