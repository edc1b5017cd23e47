use Rattle.table_updates.proofs.writes_to.Goals as goal

pub returns : goal.returns
returns c = rw (c.applies.ensures, c.target_of.ensures)
