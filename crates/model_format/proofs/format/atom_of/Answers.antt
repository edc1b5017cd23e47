use Rattle.model_format.specs.Format as format
use Rattle.model_format.proofs.format.atom_of.Goals as goal

pub returns : goal.returns
unfolding format.atom_of
returns c = rw (c.from.ensures, c.item_or.ensures, c.item_or-2.ensures, c.item_or-3.ensures, c.operand_at.ensures)
