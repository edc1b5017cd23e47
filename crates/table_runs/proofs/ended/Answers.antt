use Rattle.table_runs.proofs.ended.Goals as goal

pub returns : goal.returns
returns c = rw c.variables_of.ensures
