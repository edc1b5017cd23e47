use Rattle.model_words.specs.Words as words
use Rattle.model_words.proofs.items.ConnectionItem.read.Goals as goal

pub returns : goal.returns
unfolding words.connection_in
returns c = rw (c.short_in.ensures, c.short_in-2.ensures, c.byte_in.ensures, c.byte_in-2.ensures)
