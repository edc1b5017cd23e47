use Rattle.model_start.specs.Starting.{started}
use Rattle.std.proofs.Common.{rules}
use Rattle.model_start.proofs.start_in.Goals as goal

pub returns : goal.returns
returns c = started _ _ _ _ _ _ _ _ _ _ c.clear.ensures (search rules) c.initial-mode.ensures c.put_mode.ensures c.put_phase.ensures (c.put_cpu.ensures _ _) c.set_active.ensures c.set_behaviors.ensures c.set_live.ensures c.set_values.ensures
