use Rattle.model_format.specs.Format as format
use Rattle.model_format.proofs.format.owned_of.Goals as goal

pub returns : goal.returns
unfolding format.owned_of
returns c = rw (c.item_or.ensures, c.value_at.ensures)
