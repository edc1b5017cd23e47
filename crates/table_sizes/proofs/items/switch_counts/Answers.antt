use Rattle.table_sizes.specs.Leaves.{switch_told}
use Rattle.table_sizes.proofs.items.switch_counts.Goals as goal

pub returns : goal.returns
returns c = switch_told _ _ _ _ c.threads.ensures c.connections.ensures c.count.ensures
