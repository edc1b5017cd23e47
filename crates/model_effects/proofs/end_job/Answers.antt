use Rattle.model_effects.specs.Events.{ended_is}
use Rattle.model_effects.proofs.end_job.Goals as goal

pub returns : goal.returns
returns c = ended_is _ _ _ _ _ _ _ c.code_of-was.ensures c.free_cpu.ensures c.put_code.ensures c.put_job.ensures
