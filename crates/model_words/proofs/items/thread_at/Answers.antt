use Rattle.model_format.specs.Model as items
use Rattle.model_words.specs.Words as words
use Rattle.model_words.proofs.items.thread_at.Goals as goal

pub returns : goal.returns
unfolding items.thread_at words.timing_in words.threads_in
returns c = c.item_at.ensures
