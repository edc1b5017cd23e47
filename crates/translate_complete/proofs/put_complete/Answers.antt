use Rattle.records.specs.Events.{complete_kind}
use Rattle.model_words.specs.Words.{model_in}
use Rattle.table_writer.specs.WritesLaws.{writes_begin, writes_next}
use Rattle.translate_complete.specs.Complete.{rules_at, joins_stamped, complete_end}
use Rattle.translate_complete.proofs.put_complete.Goals as goal

pub loop-transition-init : goal.loop-transition-init
loop-transition-init c = writes_begin (joins_stamped complete_kind _) _

pub loop-transition-preserved : goal.loop-transition-preserved
loop-transition-preserved c = writes_next (joins_stamped complete_kind _) _ (rules_at (model_in c.args.model.now) _) c.loop-transition.invariant c.put_transition.ensures

pub returns : goal.returns
returns c = complete_end (model_in c.args.model.now) _ _ _ c.transitions-transition-end.ensures c.loop-transition.invariant c.loop-transition.auto.transition-end c.loop-transition-test.false c.put_default_rule.ensures
