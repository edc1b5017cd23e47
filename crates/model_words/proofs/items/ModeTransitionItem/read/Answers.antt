use Rattle.model_words.specs.Words as words
use Rattle.model_words.proofs.items.ModeTransitionItem.read.Goals as goal

pub returns : goal.returns
unfolding words.switch_in
returns c = rw (c.duration_in.ensures, c.duration_in-2.ensures, c.byte_in.ensures, c.byte_in-2.ensures)
