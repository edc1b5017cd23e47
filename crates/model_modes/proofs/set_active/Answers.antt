use Rattle.std.proofs.Common.{arith, refl, rules}
use Rattle.model_modes.specs.Modes.{active_none, active_next, active_all}
use Rattle.model_modes.proofs.set_active.Goals as goal

pub loop-t-init : goal.loop-t-init
loop-t-init c = (refl, active_none _ _ _)

pub loop-t-preserved : goal.loop-t-preserved
loop-t-preserved c = (search rules, active_next _ _ _ _ _ (rw c.threads.ensures at c.min-count.ensures) _ c.loop-t.invariant.1 _ _ _ c.thread_at.ensures c.in_mode.ensures c.put_active.ensures)

pub returns : goal.returns
returns c = active_all _ _ _ _ _ (rw c.threads.ensures at c.min-count.ensures) _ c.loop-t.invariant.1 (omega arith) (omega arith)
