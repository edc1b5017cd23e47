use Rattle.model_words.specs.Words as words
use Rattle.model_words.proofs.items.TransitionItem.read.Goals as goal

pub returns : goal.returns
unfolding words.transition_in
returns c = rw (c.byte_in.ensures, c.byte_in-2.ensures, c.byte_in-3.ensures, c.byte_in-4.ensures, c.byte_in-5.ensures)
