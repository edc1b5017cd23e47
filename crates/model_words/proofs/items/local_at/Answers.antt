use Rattle.model_format.specs.Model as items
use Rattle.model_words.specs.Words as words
use Rattle.model_words.proofs.items.local_at.Goals as goal

pub returns : goal.returns
unfolding items.local_at words.timing_in words.locals_in
returns c = c.item_at.ensures
