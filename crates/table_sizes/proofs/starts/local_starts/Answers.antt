use Rattle.table_sizes.specs.Leaves.{local_begun}
use Rattle.table_sizes.proofs.starts.local_starts.Goals as goal

pub returns : goal.returns
returns c = local_begun _ _ c.value_starts.ensures.0 c.local_at.ensures
