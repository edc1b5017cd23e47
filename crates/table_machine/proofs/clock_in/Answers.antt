use Rattle.table_machine.proofs.clock_in.Goals as goal

pub returns : goal.returns
returns c = rw c.value_in.ensures at c.bits.ensures
