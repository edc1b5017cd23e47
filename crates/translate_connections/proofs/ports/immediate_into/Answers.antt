use Rattle.model_words.specs.Words.{timing_in}
use Rattle.translate_connections.specs.Items.{feeds_is, into_found, into_none, found_into, none_into}
use Rattle.translate_connections.proofs.ports.immediate_into.Goals as goal

pub returns-then-own-port : goal.returns-then-own-port
returns-then-own-port c =
    let m = timing_in c.args.model.now in
    let l = rw c.connections-connection-end.ensures at c.loop-connection-test.true in
    found_into m c.args.port l (into_found m c.args.port l (feeds_is m _ c.connection_at-own.ensures c.args.port) c.if-own-port.true c.loop-connection.invariant)

pub returns : goal.returns
returns c = none_into _ _ (into_none (timing_in c.args.model.now) c.args.port (rw c.connections-connection-end.ensures at c.loop-connection-test.false) c.loop-connection.invariant)
