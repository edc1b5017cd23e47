use Rattle.numbers.specs.Lists.{join_below}
use Rattle.model_words.specs.Words.{timing_in}
use Rattle.table_writer.specs.Writes.{WritesUpdates}
use Rattle.translation.specs.Rules.{flag_update}
use Rattle.translate_modes.proofs.put_flags.Given as goal

abbrev pub invariant-loop-connection : goal.invariant-loop-connection
invariant-loop-connection l = WritesUpdates l.initial.out (join_below l.connection (flag_update (timing_in l.model) l.old l.new)) l.out
