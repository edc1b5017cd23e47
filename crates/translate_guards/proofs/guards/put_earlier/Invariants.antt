use Rattle.numbers.specs.Lists.{join_below}
use Rattle.model_words.specs.Words.{behavior_in}
use Rattle.table_writer.specs.Writes.{WritesClauses}
use Rattle.translate_guards.specs.Guards.{earlier_at}
use Rattle.translate_guards.proofs.guards.put_earlier.Given as goal

abbrev pub invariant-loop-earlier : goal.invariant-loop-earlier
invariant-loop-earlier l = WritesClauses l.initial.out (join_below l.earlier (earlier_at (behavior_in l.model) l.thread l.own.from)) l.out
