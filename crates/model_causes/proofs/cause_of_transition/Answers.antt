use Rattle.std.proofs.Common.{◌∙◌}
use Rattle.model_format.specs.Format as format
use Rattle.model_format.specs.Reading as reading
use Rattle.model_causes.proofs.cause_of_transition.Goals as goal

pub returns : goal.returns
unfolding reading.cause_of format.rank_of
returns c = c.transition_cause.ensures ∙ rw (c.transitions.ensures, c.stand_of.ensures, c.in_order-order.ensures)
