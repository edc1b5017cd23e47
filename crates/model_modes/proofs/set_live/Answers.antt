use Rattle.std.proofs.Common.{arith, refl, rules}
use Rattle.model_modes.specs.Modes.{live_none, live_next, live_all}
use Rattle.model_modes.proofs.set_live.Goals as goal

pub loop-c-init : goal.loop-c-init
loop-c-init c = (refl, live_none _ _ _ _)

pub loop-c-preserved : goal.loop-c-preserved
loop-c-preserved c = (search rules, live_next _ _ _ _ _ _ (rw c.connections.ensures at c.min-count.ensures) _ c.loop-c.invariant.1 _ _ _ _ c.connection_at-modes.ensures c.in_mode.ensures c.in_mode-in-loop-c.ensures c.put_live.ensures)

pub returns : goal.returns
returns c = live_all _ _ _ _ _ _ (rw c.connections.ensures at c.min-count.ensures) _ c.loop-c.invariant.1 (omega arith) (omega arith)
