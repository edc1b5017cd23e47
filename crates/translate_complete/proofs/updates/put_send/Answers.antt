use Rattle.model_words.specs.Words.{timing_in, behavior_in}
use Rattle.translation.specs.Rules.{sent_expression}
use Rattle.translate_complete.specs.Assigned.{source_small, target_small, send_written}
use Rattle.std.proofs.Common.{rules}
use Rattle.translate_complete.proofs.updates.put_send.Goals as goal

pub buffer_var-target-requires : goal.buffer_var-target-requires
buffer_var-target-requires c = target_small (timing_in c.args.model.now) c.requires.0 _ c.requires.1.1 _ c.connection_at-own.ensures

pub sent-expression-requires : goal.sent-expression-requires
sent-expression-requires c = (c.requires.1.0, source_small (timing_in c.args.model.now) c.requires.0 _ c.requires.1.1 _ c.connection_at-own.ensures)

pub overflow_cast-connection : goal.overflow_cast-connection
overflow_cast-connection c = let h = c.requires.0.connections in let l = c.requires.1.1 in search rules

pub flag_var-requires : goal.flag_var-requires
flag_var-requires c = let h = c.requires.0.connections in let l = c.requires.1.1 in search rules

pub returns : goal.returns
returns c = send_written (timing_in c.args.model.now) _ (sent_expression (behavior_in c.args.model.now) c.args.transition c.args.count) _ _ _ _ c.connection_at-own.ensures c.flag_var.ensures c.buffer_var-target.ensures c.sent-expression.ensures c.put_assigned.ensures
