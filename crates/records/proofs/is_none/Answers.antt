use Rattle.records.proofs.is_none.Goals as goal

pub returns : goal.returns
returns c = rw c.number_of.ensures
