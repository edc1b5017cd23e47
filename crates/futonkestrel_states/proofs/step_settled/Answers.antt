use Rattle.futonkestrel_states.specs.Laws.{event_taken, event_refused}
use Rattle.futonkestrel_states.proofs.step_settled.Goals as goal

pub returns-then-is_none : goal.returns-then-is_none
returns-then-is_none c = event_taken c.step-answer.ensures c.is_none.ensures c.if-is_none.true c.settle_state.ensures

pub returns-else-is_none : goal.returns-else-is_none
returns-else-is_none c = event_refused c.step-answer.ensures c.is_none.ensures c.if-is_none.false
