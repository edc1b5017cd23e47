use Rattle.table_ticks.proofs.one_later.Goals as goal

pub returns : goal.returns
returns c = rw c.value_of.ensures at c.plus.ensures
