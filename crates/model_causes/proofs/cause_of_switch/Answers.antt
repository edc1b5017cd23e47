use Rattle.std.proofs.Common.{◌∙◌}
use Rattle.model_format.specs.Format as format
use Rattle.model_format.specs.Reading as reading
use Rattle.model_faults.specs.Causes as causes
use Rattle.model_causes.proofs.cause_of_switch.Goals as goal

pub returns : goal.returns
unfolding reading.cause_of causes.found_in format.rank_of
returns c = c.switch_cause.ensures ∙ rw (c.requires, c.stand_of.ensures, c.in_order-order.ensures)
