use Rattle.table_sizes.specs.Together.{size_small, size_known}
use Rattle.table_sizes.proofs.size_of.Goals as goal

pub size_by-requires : goal.size_by-requires
size_by-requires c = size_small _ c.requires c.item_starts.ensures c.item_counts.ensures

pub returns : goal.returns
returns c = size_known _ c.requires c.item_starts.ensures c.item_counts.ensures c.size_by.ensures
