use Rattle.model_format.specs.Model as items
use Rattle.model_words.specs.Words as words
use Rattle.model_words.proofs.items.switch_at.Goals as goal

pub returns : goal.returns
unfolding items.switch_at words.timing_in words.switches_in
returns c = c.item_at.ensures
