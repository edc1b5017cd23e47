use Rattle.model_format.specs.Format as format
use Rattle.model_format.proofs.format.input_of.Goals as goal

pub returns : goal.returns
unfolding format.input_of
returns c = rw c.item_or.ensures
