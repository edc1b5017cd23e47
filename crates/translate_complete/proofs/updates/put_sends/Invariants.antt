use Rattle.numbers.specs.Lists.{join_below}
use Rattle.model_words.specs.Words.{timing_in, behavior_in}
use Rattle.model_format.specs.Model.{immediate}
use Rattle.translation.specs.Rules.{sent_expression, where_sent}
use Rattle.table_writer.specs.Writes.{WritesUpdates}
use Rattle.translate_complete.proofs.updates.put_sends.Given as goal

abbrev pub invariant-loop-connection : goal.invariant-loop-connection
invariant-loop-connection l = WritesUpdates l.initial.out (join_below l.connection (where_sent (timing_in l.model) immediate l.thread (sent_expression (behavior_in l.model) l.transition l.count))) l.out
