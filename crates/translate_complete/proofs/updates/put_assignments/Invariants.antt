use Rattle.numbers.specs.Lists.{join_below}
use Rattle.model_words.specs.Words.{behavior_in}
use Rattle.table_writer.specs.Writes.{WritesUpdates}
use Rattle.translate_complete.specs.Assigned.{assignment_of}
use Rattle.translate_complete.proofs.updates.put_assignments.Given as goal

abbrev pub invariant-loop-number : goal.invariant-loop-number
invariant-loop-number l = WritesUpdates l.initial.out (join_below l.number (assignment_of (behavior_in l.model) l.transition)) l.out
