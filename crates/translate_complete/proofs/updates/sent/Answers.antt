use Rattle.model_words.specs.Words.{behavior_in}
use Rattle.translate_guards.specs.NamedLaws.{first_named}
use Rattle.translate_complete.specs.Assigned.{sent_none, sent_next, sent_all}
use Rattle.translate_complete.proofs.updates.sent.Goals as goal

pub loop-number-init : goal.loop-number-init
loop-number-init c = sent_none (behavior_in c.args.model.now) c.args.transition _ _ c.copied_output-expression.ensures

pub sent_after-expression-requires : goal.sent_after-expression-requires
sent_after-expression-requires c = first_named c.requires.0 _ c.loop-number-test.true _ c.assignment_at-assignment.ensures

pub loop-number-preserved : goal.loop-number-preserved
loop-number-preserved c = sent_next (behavior_in c.args.model.now) c.args.transition _ _ _ _ _ c.assignment_at-assignment.ensures c.loop-number.invariant c.sent_after-expression.ensures

pub returns : goal.returns
returns c = sent_all (behavior_in c.args.model.now) c.args.transition _ _ _ _ c.loop-number.auto.number-end c.loop-number-test.false c.loop-number.invariant
