use Rattle.std.proofs.Common.{sym}
use Rattle.model_format.specs.Format as format
use Rattle.model_format.specs.Reading as reading
use Rattle.model_causes.proofs.cause_of_assignment.Goals as goal

pub assignment_fits-requires : goal.assignment_fits-requires
assignment_fits-requires c = (c.last_transition-current.ensures, rw (← c.last_transition-current.ensures) c.transition_at-open.ensures)

pub returns-then-assignment_fits : goal.returns-then-assignment_fits
returns-then-assignment_fits c = sym (c.assignment_fits.ensures c.if-assignment_fits.true)

pub returns : goal.returns
unfolding reading.cause_of reading.names_item reading.is_assigned format.rank_of
returns c = rw (c.assignment_cause.ensures, c.stand_of.ensures, c.is_assigned-twice.ensures, c.operand_owned-second.ensures, c.operand_owned-first.ensures, c.is_owned_by-target.ensures, c.from.ensures, c.transition_at-open.ensures, c.last_transition-current.ensures, c.in_order-order.ensures)
