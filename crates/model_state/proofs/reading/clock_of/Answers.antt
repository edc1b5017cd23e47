use Rattle.model_state.specs.StateLaws.{clock_at}
use Rattle.model_state.proofs.reading.clock_of.Goals as goal

pub returns : goal.returns
returns c = clock_at _ _ _ _ _ _ _ _ _ _ _ c.item_or.ensures c.item_or-2.ensures c.item_or-3.ensures c.item_or-4.ensures c.item_or-5.ensures c.item_or-6.ensures c.byte_of.ensures c.byte_of-2.ensures c.byte_of-3.ensures c.byte_of-4.ensures
