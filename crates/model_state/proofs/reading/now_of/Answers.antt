use Rattle.model_state.specs.StateLaws.{now_at}
use Rattle.model_state.proofs.reading.now_of.Goals as goal

pub returns : goal.returns
returns c = now_at _ _ c.item_or.ensures
