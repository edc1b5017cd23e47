use Rattle.std.proofs.Common.{sym, ◌∙◌}
use Rattle.model_words.specs.Words.{timing_in}
use Rattle.table_writer.specs.Lists.{joins_updates}
use Rattle.table_writer.specs.WritesLaws.{writes_begin, writes_next}
use Rattle.translation.specs.Rules.{old_output, where_sent}
use Rattle.translate_waits.specs.Named.{where_passed, where_failed}
use Rattle.translate_waits.specs.Waits.{few_connections}
use Rattle.translate_connections.specs.Items.{source_small, target_small, sent_over}
use Rattle.translate_connections.proofs.sends.put_sends.Goals.{then-is_from, else-is_from}
use Rattle.translate_connections.proofs.sends.put_sends.Goals as goal

pub loop-connection-init : goal.loop-connection-init
loop-connection-init c = writes_begin joins_updates _

pub put_sent-requires : goal.put_sent-requires
put_sent-requires c =
    let m = timing_in c.args.model.now in
    let l = rw c.connections-connection-end.ensures at c.loop-connection-test.true in
    (few_connections c.requires c.connections-connection-end.ensures c.loop-connection-test.true, (source_small m _ c.connection_at-own.ensures c.requires l, target_small m _ c.connection_at-own.ensures c.requires l))

pub loop-connection-preserved : goal.loop-connection-preserved
loop-connection-preserved c =
    let m = timing_in c.args.model.now in
    writes_next joins_updates _ (where_sent m c.args.kind c.args.thread old_output) c.loop-connection.invariant (elim c.if-is_from.branch [
      | then-is_from w ↦ rw w.out-is (where_passed joins_updates _ (sym c.is_from.ensures ∙ w.if-is_from.true) (sent_over m _ w.connection_at-own.ensures w.put_sent.ensures))
      | else-is_from w ↦ rw w.out-is (where_failed joins_updates _ (sym c.is_from.ensures ∙ w.if-is_from.false))
    ])
