use Rattle.model_format.specs.Format as format
use Rattle.model_format.proofs.format.thread_of.Goals as goal

pub returns : goal.returns
unfolding format.thread_of
returns c = rw (c.item_or.ensures, c.item_or-2.ensures, c.item_or-3.ensures, c.duration_at.ensures, c.duration_at-2.ensures, c.duration_at-3.ensures, c.duration_at-4.ensures)
