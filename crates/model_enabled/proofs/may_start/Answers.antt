use Rattle.model_enabled.specs.Takes.{take_start}
use Rattle.model_enabled.proofs.may_start.Goals as goal

pub returns : goal.returns
returns c = take_start _ _ _ _ _ c.thread_at-thread.ensures c.start_fault.ensures
