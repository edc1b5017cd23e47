use Rattle.std.proofs.Common.{ap, not}
use Rattle.model_tests.specs.TestLaws.{feeder_off, feeder_away, feeder_is}
use Rattle.model_tests.proofs.threads.feeder.Goals as goal

pub returns-then-not-connection-kind : goal.returns-then-not-connection-kind
returns-then-not-connection-kind c = feeder_off _ _ _ _ _ _ _ c.connection_at-connection.ensures c.is_live-live.ensures (ap not c.if-not-connection-kind.true)

pub returns-then-from-t : goal.returns-then-from-t
returns-then-from-t c = feeder_away _ _ _ _ _ _ _ c.connection_at-connection.ensures c.is_live-live.ensures _ _ _ c.from.ensures c.input_owner-owner.ensures c.from-2.ensures c.if-from-t.true

pub returns : goal.returns
returns c = feeder_is _ _ _ _ _ _ _ c.connection_at-connection.ensures c.is_live-live.ensures _ _ _ c.from.ensures c.input_owner-owner.ensures c.from-2.ensures c.if-from-t.false _ c.source_of.ensures (ap not c.if-not-connection-kind.false)
