use Rattle.std.proofs.Common.{arith, refl, rules}
use Rattle.model_ports.specs.Sends.{sent_none, sent_next, sent_all}
use Rattle.model_ports.proofs.connections.send.Goals as goal

pub loop-c-init : goal.loop-c-init
loop-c-init c = (refl, sent_none _ _ _ _)

pub loop-c-preserved : goal.loop-c-preserved
loop-c-preserved c = (search rules, sent_next _ _ _ _ _ (rw c.connections.ensures at c.min-count.ensures) _ _ c.loop-c.invariant.1 _ _ _ c.connection_at-connection.ensures c.carries-goes.ensures c.send_one.ensures)

pub returns : goal.returns
returns c = sent_all _ _ _ _ _ (rw c.connections.ensures at c.min-count.ensures) _ _ c.loop-c.invariant.1 (omega arith) (omega arith)
