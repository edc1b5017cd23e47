use Rattle.model_mode_events.specs.ModeAnswers.{request_made, request_failed}
use Rattle.model_mode_events.proofs.on_request.Goals as goal

pub returns-then-from-switches : goal.returns-then-from-switches
returns-then-from-switches c = request_made _ _ _ _ _ c.from.ensures c.switches.ensures _ c.if-from-switches.true c.request.ensures

pub returns : goal.returns
returns c = request_failed _ _ _ _ _ c.from.ensures c.switches.ensures c.if-from-switches.false
