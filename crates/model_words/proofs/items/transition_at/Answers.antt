use Rattle.model_format.specs.Model as items
use Rattle.model_words.specs.Words as words
use Rattle.model_words.proofs.items.transition_at.Goals as goal

pub returns : goal.returns
unfolding items.transition_at words.behavior_in words.transitions_in
returns c = c.item_at.ensures
