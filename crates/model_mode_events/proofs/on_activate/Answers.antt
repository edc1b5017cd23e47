use Rattle.model_mode_events.specs.ModeAnswers.{activate_made, activate_failed}
use Rattle.model_mode_events.proofs.on_activate.Goals as goal

pub returns-then-t-threads : goal.returns-then-t-threads
returns-then-t-threads c = activate_made _ _ _ _ _ _ c.threads.ensures c.can_activate.ensures c.if-t-threads.true c.put_code.ensures

pub returns : goal.returns
returns c = activate_failed _ _ _ _ _ c.threads.ensures c.can_activate.ensures c.if-t-threads.false
