use Rattle.futonkestrel_lending.specs.ToldLaws.{tells_same}
use Rattle.futonkestrel_enabled.proofs.table_enabled.Goals as goal

pub returns : goal.returns
returns c = tells_same c.enabled_in-e.ensures c.tell_enabled.ensures
