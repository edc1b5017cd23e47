use Rattle.model_words.specs.Words as words
use Rattle.model_words.proofs.items.AssignmentItem.read.Goals as goal

pub returns : goal.returns
unfolding words.assignment_in
returns c = rw (c.operand_in.ensures, c.operand_in-2.ensures, c.short_in.ensures, c.byte_in.ensures, c.byte_in-2.ensures)
