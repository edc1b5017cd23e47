use Rattle.numbers.specs.Lists.{join_below}
use Rattle.model_words.specs.Words.{behavior_in}
use Rattle.table_writer.specs.Writes.{WritesAtoms}
use Rattle.translate_guards.specs.Guards.{negated_at}
use Rattle.translate_guards.proofs.guards.put_negated.Given as goal

abbrev pub invariant-loop-number : goal.invariant-loop-number
invariant-loop-number l = WritesAtoms l.initial.out (join_below l.number (negated_at (behavior_in l.model) l.transition)) l.out
