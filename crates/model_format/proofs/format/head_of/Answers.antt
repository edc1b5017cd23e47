use Rattle.model_format.specs.Format as format
use Rattle.model_format.proofs.format.head_of.Goals as goal

pub returns : goal.returns
unfolding format.head_of
returns c = rw (c.item_or.ensures, c.item_or-2.ensures)
