use Rattle.numbers.specs.Lists.{join_below}
use Rattle.records.specs.Events.{complete_kind}
use Rattle.model_words.specs.Words.{model_in}
use Rattle.translation.specs.Parts.{stamped}
use Rattle.table_writer.specs.Writes.{WritesRules}
use Rattle.translate_complete.specs.Complete.{rules_at}
use Rattle.translate_complete.proofs.put_complete.Given as goal

abbrev pub invariant-loop-transition : goal.invariant-loop-transition
invariant-loop-transition l = WritesRules l.initial.out (stamped complete_kind l.thread (join_below l.transition (rules_at (model_in l.model) l.thread))) l.out
