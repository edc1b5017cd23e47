use Rattle.model_words.specs.Words.{timing_in}
use Rattle.table_writer.specs.Lists.{joins_updates}
use Rattle.table_writer.specs.WritesLaws.{writes_begin, writes_next}
use Rattle.translation.specs.Rules.{where_owned, start_port}
use Rattle.translate_connections.specs.Items.{own_port, other_port}
use Rattle.translate_connections.proofs.ports.put_start_ports.Goals.{then-input_owner-thread, else-input_owner-thread}
use Rattle.translate_connections.proofs.ports.put_start_ports.Goals as goal

pub loop-port-init : goal.loop-port-init
loop-port-init c = writes_begin joins_updates _

pub loop-port-preserved : goal.loop-port-preserved
loop-port-preserved c =
    let m = timing_in c.args.model.now in
    writes_next joins_updates _ (where_owned m c.args.thread (start_port m)) c.loop-port.invariant (elim c.if-input_owner-thread.branch [
      | then-input_owner-thread w ↦ rw w.out-is (own_port m _ c.args.thread _ c.input_owner.ensures w.if-input_owner-thread.true w.put_start_port.ensures)
      | else-input_owner-thread w ↦ rw w.out-is (other_port m _ c.args.thread _ c.input_owner.ensures w.if-input_owner-thread.false)
    ])
