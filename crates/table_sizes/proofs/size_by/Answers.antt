use native.Mathlib.Omega.{arith}
use Rattle.table_sizes.specs.Leaves.{size_told}
use Rattle.table_sizes.proofs.size_by.Goals as goal

pub returns : goal.returns
returns c = size_told _ _ (omega arith)
