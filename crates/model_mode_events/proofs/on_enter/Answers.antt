use Rattle.model_mode_events.specs.ModeAnswers.{enter_made, enter_failed}
use Rattle.model_mode_events.proofs.on_enter.Goals as goal

pub returns-then-q-switches : goal.returns-then-q-switches
returns-then-q-switches c = enter_made _ _ _ _ _ _ c.switches.ensures c.can_enter.ensures c.if-q-switches.true c.enter.ensures

pub returns : goal.returns
returns c = enter_failed _ _ _ _ _ c.switches.ensures c.can_enter.ensures c.if-q-switches.false
