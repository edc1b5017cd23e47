use Rattle.std.proofs.Common.{get_or}
use Rattle.model_words.specs.Words.{model_in}
use Rattle.table_format.specs.RuleKinds.{rule_kinds}
use Rattle.table_writer.specs.Lists.{joins_rules}
use Rattle.table_writer.specs.WritesLaws.{writes_begin, writes_next, writes_end}
use Rattle.translator.specs.Groups.{kind_rules, complete_kind_lem, other_kind, all_rules}
use Rattle.translator.proofs.put_rules.Goals.{then-kind-eq-COMPLETE, else-kind-eq-COMPLETE}
use Rattle.translator.proofs.put_rules.Goals as goal

pub loop-number-init : goal.loop-number-init
loop-number-init c = writes_begin joins_rules _

pub put_group-requires : goal.put_group-requires
put_group-requires c = c.requires.timing

pub loop-number-preserved : goal.loop-number-preserved
loop-number-preserved c =
    let m = model_in c.args.words.now in
    writes_next joins_rules _ (λ k. kind_rules m (get_or rule_kinds k 0)) c.loop-number.invariant (elim c.if-kind-eq-COMPLETE.branch [
      | then-kind-eq-COMPLETE w ↦ rw w.out-is (complete_kind_lem m _ c.rule_kind-kind.ensures w.if-kind-eq-COMPLETE.true w.put_completes.ensures)
      | else-kind-eq-COMPLETE w ↦ rw w.out-is (other_kind m _ c.rule_kind-kind.ensures w.if-kind-eq-COMPLETE.false w.put_group.ensures)
    ])

pub returns : goal.returns
returns c = rw (← all_rules (model_in c.args.words.now)) (writes_end joins_rules _ 10 _ c.loop-number.auto.number-end c.loop-number-test.false c.loop-number.invariant)
