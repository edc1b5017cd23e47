use Rattle.model_modes.specs.Modes.{enter_is}
use Rattle.model_modes.proofs.enter.Goals as goal

pub returns : goal.returns
returns c = enter_is _ _ _ _ c.switch_at-switch.ensures _ _ _ _ _ c.clock_of-clock.ensures c.put_phase.ensures c.put_entered.ensures c.set_active.ensures c.set_live.ensures
