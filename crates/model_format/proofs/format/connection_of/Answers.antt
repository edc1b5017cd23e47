use Rattle.model_format.specs.Format as format
use Rattle.model_format.proofs.format.connection_of.Goals as goal

pub returns : goal.returns
unfolding format.connection_of
returns c = rw (c.from.ensures, c.from-2.ensures, c.item_or.ensures, c.item_or-2.ensures, c.item_or-3.ensures, c.item_or-4.ensures)
