use Rattle.model_words.specs.Words as words
use Rattle.model_words.proofs.items.inputs.Goals as goal

pub returns : goal.returns
unfolding words.timing_in
returns c = c.item_or.ensures
