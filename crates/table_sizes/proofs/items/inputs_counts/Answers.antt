use Rattle.table_sizes.specs.Leaves.{inputs_told}
use Rattle.table_sizes.proofs.items.inputs_counts.Goals as goal

pub returns : goal.returns
returns c = inputs_told _ _ c.inputs.ensures c.count.ensures
