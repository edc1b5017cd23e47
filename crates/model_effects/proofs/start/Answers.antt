use Rattle.model_effects.specs.Events.{start_is}
use Rattle.model_effects.proofs.start.Goals as goal

pub returns : goal.returns
returns c = start_is _ _ _ _ _ _ _ _ _ c.from-t.ensures c.freeze.ensures c.put_code.ensures (c.put_cpu.ensures _ _) c.put_job.ensures
