use Rattle.table_search.specs.Enabled.{found_one_more, more_than_one}
use Rattle.table_search.proofs.found_one_more.Goals as goal

pub returns-in-Nothing : goal.returns-in-Nothing
unfolding found_one_more
returns-in-Nothing c = rw c.in-Nothing.is

pub returns-in_default : goal.returns-in_default
returns-in_default c = more_than_one _ _ _ c.in_default.not-Nothing
