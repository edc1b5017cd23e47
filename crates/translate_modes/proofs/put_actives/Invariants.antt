use Rattle.numbers.specs.Lists.{join_below}
use Rattle.model_words.specs.Words.{timing_in}
use Rattle.table_writer.specs.Writes.{WritesUpdates}
use Rattle.translation.specs.Rules.{active_update}
use Rattle.translate_modes.proofs.put_actives.Given as goal

abbrev pub invariant-loop-thread : goal.invariant-loop-thread
invariant-loop-thread l = WritesUpdates l.initial.out (join_below l.thread (active_update (timing_in l.model) l.mode)) l.out
