use Rattle.numbers.specs.Lists.{join_below}
use Rattle.model_words.specs.Words.{behavior_in}
use Rattle.table_writer.specs.Writes.{WritesClauses}
use Rattle.translate_guards.specs.Guards.{guard_at}
use Rattle.translate_guards.proofs.guards.put_guard.Given as goal

abbrev pub invariant-loop-number : goal.invariant-loop-number
invariant-loop-number l = WritesClauses l.initial.out (join_below l.number (guard_at (behavior_in l.model) l.transition)) l.out
