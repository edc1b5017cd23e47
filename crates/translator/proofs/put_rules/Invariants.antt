use Rattle.std.proofs.Common.{get_or}
use Rattle.numbers.specs.Lists.{join_below}
use Rattle.model_words.specs.Words.{model_in}
use Rattle.table_format.specs.RuleKinds.{rule_kinds}
use Rattle.table_writer.specs.Writes.{WritesRules}
use Rattle.translator.specs.Groups.{kind_rules}
use Rattle.translator.proofs.put_rules.Given as goal

abbrev pub invariant-loop-number : goal.invariant-loop-number
invariant-loop-number l = WritesRules l.initial.out (join_below l.number (λ k. kind_rules (model_in l.words) (get_or rule_kinds k 0))) l.out
