use Rattle.numbers.specs.Lists.{join_below}
use Rattle.model_words.specs.Words.{behavior_in}
use Rattle.table_writer.specs.Writes.{WritesClauses}
use Rattle.translate_guards.specs.Guards.{otherwise_at}
use Rattle.translate_guards.proofs.guards.put_otherwise.Given as goal

abbrev pub invariant-loop-transition : goal.invariant-loop-transition
invariant-loop-transition l = WritesClauses l.initial.out (join_below l.transition (otherwise_at (behavior_in l.model) l.thread)) l.out
