use Rattle.numbers.specs.Lists.{join_below}
use Rattle.model_words.specs.Words.{timing_in}
use Rattle.table_writer.specs.Writes.{WritesUpdates}
use Rattle.translation.specs.Rules.{old_output, where_sent}
use Rattle.translate_connections.proofs.sends.put_sends.Given as goal

abbrev pub invariant-loop-connection : goal.invariant-loop-connection
invariant-loop-connection l = WritesUpdates l.initial.out (join_below l.connection (where_sent (timing_in l.model) l.kind l.thread old_output)) l.out
