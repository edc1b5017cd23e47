use Rattle.model_modes.specs.Modes.{leave_is}
use Rattle.model_modes.proofs.leave.Goals as goal

pub returns : goal.returns
returns c = leave_is _ _ _ _ c.switch_at-switch.ensures _ _ _ c.put_phase.ensures c.put_mode.ensures c.set_live.ensures
