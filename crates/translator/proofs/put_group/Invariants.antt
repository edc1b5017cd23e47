use Rattle.numbers.specs.Lists.{join_below}
use Rattle.model_words.specs.Words.{timing_in}
use Rattle.table_writer.specs.Writes.{WritesRules}
use Rattle.translation.specs.Parts.{stamped}
use Rattle.translation.specs.Rules.{timing_rules}
use Rattle.translator.proofs.put_group.Given as goal

abbrev pub invariant-loop-item : goal.invariant-loop-item
invariant-loop-item l = WritesRules l.initial.out (join_below l.item (λ k. stamped l.kind k (timing_rules (timing_in l.words) l.kind k))) l.out
