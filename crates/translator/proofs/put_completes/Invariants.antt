use Rattle.numbers.specs.Lists.{join_below}
use Rattle.records.specs.Events.{complete_kind}
use Rattle.model_words.specs.Words.{model_in}
use Rattle.table_writer.specs.Writes.{WritesRules}
use Rattle.translation.specs.Parts.{stamped}
use Rattle.translation.specs.Rules.{complete_rules}
use Rattle.translator.proofs.put_completes.Given as goal

abbrev pub invariant-loop-thread : goal.invariant-loop-thread
invariant-loop-thread l = WritesRules l.initial.out (join_below l.thread (λ i. stamped complete_kind i (complete_rules (model_in l.words) i))) l.out
