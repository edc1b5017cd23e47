use Rattle.model_words.specs.Words.{timing_in, behavior_in}
use Rattle.model_format.specs.Model.{immediate}
use Rattle.translation.specs.Rules.{sent_expression, where_sent}
use Rattle.table_writer.specs.Lists.{joins_updates}
use Rattle.table_writer.specs.WritesLaws.{writes_begin, writes_next}
use Rattle.translate_complete.proofs.updates.put_sends.Goals as goal

pub loop-connection-init : goal.loop-connection-init
loop-connection-init c = writes_begin joins_updates _

pub loop-connection-preserved : goal.loop-connection-preserved
loop-connection-preserved c = writes_next joins_updates _ (where_sent (timing_in c.args.model.now) immediate _ (sent_expression (behavior_in c.args.model.now) c.args.transition c.args.count)) c.loop-connection.invariant c.put_send_from.ensures
