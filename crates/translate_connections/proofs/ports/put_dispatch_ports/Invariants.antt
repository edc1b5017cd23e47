use Rattle.numbers.specs.Lists.{join_below}
use Rattle.model_words.specs.Words.{timing_in}
use Rattle.table_writer.specs.Writes.{WritesUpdates}
use Rattle.translation.specs.Rules.{where_owned, dispatch_port}
use Rattle.translate_connections.proofs.ports.put_dispatch_ports.Given as goal

abbrev pub invariant-loop-port : goal.invariant-loop-port
invariant-loop-port l = WritesUpdates l.initial.out (join_below l.port (where_owned (timing_in l.model) l.thread (dispatch_port (timing_in l.model)))) l.out
