use Rattle.model_words.specs.Words.{model_in}
use Rattle.translate_complete.specs.Complete.{rule_written, rule_none}
use Rattle.translate_complete.proofs.put_transition.Goals as goal

pub put_transition_rule-requires : goal.put_transition_rule-requires
put_transition_rule-requires c = c.requires

pub returns-then-own-thread : goal.returns-then-own-thread
returns-then-own-thread c = rule_written (model_in c.args.model.now) _ _ _ c.transition_at-own.ensures c.if-own-thread.true c.put_transition_rule.ensures

pub returns-else-own-thread : goal.returns-else-own-thread
returns-else-own-thread c = rule_none (model_in c.args.model.now) _ _ _ c.transition_at-own.ensures c.if-own-thread.false
