use Rattle.std.proofs.Common.{◌∙◌}
use Rattle.model_format.specs.Format as format
use Rattle.model_format.specs.Reading as reading
use Rattle.model_causes.proofs.cause_of_output.Goals as goal

pub returns : goal.returns
unfolding reading.cause_of format.rank_of
returns c = c.port_cause.ensures ∙ rw (c.stand_of-stand.ensures, c.in_order-order.ensures)
