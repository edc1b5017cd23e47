use Rattle.model_format.specs.Model as items
use Rattle.model_words.specs.Words as words
use Rattle.model_words.proofs.items.input_at.Goals as goal

pub returns : goal.returns
unfolding items.input_at words.timing_in words.inputs_in
returns c = c.item_at.ensures
