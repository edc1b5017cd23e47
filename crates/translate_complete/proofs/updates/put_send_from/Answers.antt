use Rattle.model_words.specs.Words.{timing_in, behavior_in}
use Rattle.translation.specs.Rules.{sent_expression}
use Rattle.translate_complete.specs.Assigned.{sent_over, sent_not}
use Rattle.translate_complete.proofs.updates.put_send_from.Goals as goal

pub put_send-requires : goal.put_send-requires
put_send-requires c = c.requires

pub returns-then-is_from : goal.returns-then-is_from
returns-then-is_from c = sent_over (timing_in c.args.model.now) _ _ (sent_expression (behavior_in c.args.model.now) c.args.transition c.args.count) _ c.is_from.ensures c.if-is_from.true c.put_send.ensures

pub returns-else-is_from : goal.returns-else-is_from
returns-else-is_from c = sent_not (timing_in c.args.model.now) _ _ (sent_expression (behavior_in c.args.model.now) c.args.transition c.args.count) _ c.is_from.ensures c.if-is_from.false
