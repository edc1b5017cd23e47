use Rattle.model_mode_events.specs.ModeAnswers.{leave_made, leave_failed}
use Rattle.model_mode_events.proofs.on_leave.Goals as goal

pub returns-then-q-switches : goal.returns-then-q-switches
returns-then-q-switches c = leave_made _ _ _ _ _ _ c.switches.ensures c.can_leave.ensures c.if-q-switches.true c.leave.ensures

pub returns : goal.returns
returns c = leave_failed _ _ _ _ _ c.switches.ensures c.can_leave.ensures c.if-q-switches.false
