use Rattle.std.proofs.Common.{arith, refl, rules}
use Rattle.model_start.specs.Starting.{behaviors_none, behaviors_next, behaviors_all}
use Rattle.model_start.proofs.set_behaviors.Goals as goal

pub loop-t-init : goal.loop-t-init
loop-t-init c = (refl, behaviors_none _ _)

pub loop-t-preserved : goal.loop-t-preserved
loop-t-preserved c = (search rules, behaviors_next _ _ _ _ _ _ c.loop-t.invariant.1 c.thread_at.ensures c.put_behavior.ensures)

pub returns : goal.returns
returns c = behaviors_all _ _ _ _ _ (rw c.threads.ensures at c.min-count.ensures) (omega arith) (omega arith) c.loop-t.invariant.1
