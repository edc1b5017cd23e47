use Rattle.std.proofs.Common.{◌∙◌}
use Rattle.model_format.specs.Format as format
use Rattle.model_format.specs.Reading as reading
use Rattle.model_takes.proofs.HeadTaken.cause.Goals as goal

pub returns : goal.returns
unfolding reading.cause_of format.rank_of
returns c = c.head_cause.ensures ∙ rw c.in_order.ensures
