use Rattle.model_transitions.specs.OpenLaws.{starts_from}
use Rattle.model_transitions.proofs.opening.starts_from.Goals as goal

pub returns : goal.returns
unfolding starts_from
returns c = rw c.from.ensures
