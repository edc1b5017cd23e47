use Rattle.model_words.specs.Words as words
use Rattle.model_words.proofs.items.ThreadItem.read.Goals as goal

pub returns : goal.returns
unfolding words.thread_in
returns c = rw (c.duration_in.ensures, c.duration_in-2.ensures, c.duration_in-3.ensures, c.duration_in-4.ensures, c.byte_in.ensures, c.byte_in-2.ensures, c.byte_in-3.ensures)
