use Rattle.std.proofs.Common.{refl}
use Rattle.table_format.specs.Variables.{is_variable}
use Rattle.table_faults.proofs.is_variable.Goals as goal

pub returns : goal.returns
unfolding is_variable
returns c = refl
