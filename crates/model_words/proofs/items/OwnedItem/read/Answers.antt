use Rattle.model_words.specs.Words as words
use Rattle.model_words.proofs.items.OwnedItem.read.Goals as goal

pub returns : goal.returns
unfolding words.owned_in
returns c = rw (c.value_in.ensures, c.byte_in.ensures)
