use Rattle.model_ports.specs.Sends.{carries_off, carries_on}
use Rattle.std.proofs.Common.{ap, not}
use Rattle.model_ports.proofs.connections.carries.Goals as goal

pub returns-then-not-connection-kind : goal.returns-then-not-connection-kind
returns-then-not-connection-kind c = carries_off _ _ _ _ _ _ _ c.is_live-live.ensures (ap not c.if-not-connection-kind.true)

pub returns : goal.returns
returns c = carries_on _ _ _ _ _ _ _ c.is_live-live.ensures _ _ _ (ap not c.if-not-connection-kind.false) c.from.ensures c.output_owner-owner.ensures c.from-2.ensures
