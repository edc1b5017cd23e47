use Rattle.numbers.specs.Lists.{join_below}
use Rattle.model_words.specs.Words.{timing_in}
use Rattle.table_writer.specs.Writes.{WritesClauses}
use Rattle.translation.specs.Rules.{delayed_wait}
use Rattle.translate_waits.proofs.waits.put_delayed_waits.Given as goal

abbrev pub invariant-loop-connection : goal.invariant-loop-connection
invariant-loop-connection l = WritesClauses l.initial.out (join_below l.connection (delayed_wait (timing_in l.model) l.thread)) l.out
