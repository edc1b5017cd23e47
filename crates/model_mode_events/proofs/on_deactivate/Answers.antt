use Rattle.model_mode_events.specs.ModeAnswers.{deactivate_made, deactivate_failed}
use Rattle.model_mode_events.proofs.on_deactivate.Goals as goal

pub returns-then-t-threads : goal.returns-then-t-threads
returns-then-t-threads c = deactivate_made _ _ _ _ _ _ c.threads.ensures c.can_deactivate.ensures c.if-t-threads.true (c.deactivate.ensures _)

pub returns : goal.returns
returns c = deactivate_failed _ _ _ _ _ c.threads.ensures c.can_deactivate.ensures c.if-t-threads.false
