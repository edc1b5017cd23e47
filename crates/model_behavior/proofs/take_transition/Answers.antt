use Rattle.model_behavior.specs.AdvanceLaws.{advance_none, advance_some}
use Rattle.model_behavior.proofs.take_transition.Goals as goal

pub returns-then-transitions-k : goal.returns-then-transitions-k
returns-then-transitions-k c = advance_none _ _ _ _ _ c.first_open-k.ensures c.transitions.ensures c.if-transitions-k.true

pub returns : goal.returns
returns c = advance_some _ _ _ _ _ c.first_open-k.ensures c.transitions.ensures _ _ _ c.if-transitions-k.false c.transition_at-transition.ensures c.assign.ensures c.put_behavior.ensures
