use Rattle.futonkestrel_sizes.specs.SizeLaws.{size_told}
use Rattle.futonkestrel_sizes.proofs.table_size.Goals as goal

pub returns : goal.returns
returns c = size_told c.foretell.ensures c.tell_size.ensures
