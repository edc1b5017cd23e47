use Rattle.model_modes.specs.Modes.{request_taken, request_ignored_lem}
use Rattle.model_modes.proofs.request.Goals as goal

pub returns-then-clock-switch : goal.returns-then-clock-switch
returns-then-clock-switch c = request_taken _ _ _ _ _ _ c.from.ensures c.switch_at-switch.ensures c.clock_of-clock.ensures _ c.if-clock-switch.true c.put_phase.ensures

pub returns-else-clock-switch : goal.returns-else-clock-switch
returns-else-clock-switch c = request_ignored_lem _ _ _ _ _ _ c.from.ensures c.switch_at-switch.ensures c.clock_of-clock.ensures c.if-clock-switch.false
