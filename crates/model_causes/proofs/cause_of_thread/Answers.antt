use Rattle.std.proofs.Common.{◌∙◌}
use Rattle.model_format.specs.Format as format
use Rattle.model_format.specs.Reading as reading
use Rattle.model_causes.proofs.cause_of_thread.Goals as goal

pub returns : goal.returns
unfolding reading.cause_of reading.mask_fits format.rank_of
returns c = c.thread_cause.ensures ∙ rw (c.stand_of.ensures, c.in_order-order.ensures)
