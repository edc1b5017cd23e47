use Rattle.futonkestrel_reading.specs.Laws.{read_settled}
use Rattle.futonkestrel_reading.proofs.read_settled.Goals as goal

pub returns : goal.returns
returns c = read_settled c.requires c.read_model_into.ensures c.settle_model.ensures
