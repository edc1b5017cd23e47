use Rattle.std.proofs.Common.{sym, ◌∙◌}
use Rattle.model_words.specs.Words.{timing_in}
use Rattle.table_writer.specs.Lists.{joins_clauses}
use Rattle.table_writer.specs.WritesLaws.{writes_begin, writes_next}
use Rattle.translation.specs.Rules.{delayed_wait}
use Rattle.translate_waits.specs.Named.{where_passed, where_failed}
use Rattle.translate_waits.specs.Waits.{delayed_wait_lem}
use Rattle.translate_waits.proofs.waits.put_delayed_waits.Goals.{then-is_into, else-is_into}
use Rattle.translate_waits.proofs.waits.put_delayed_waits.Goals as goal

pub loop-connection-init : goal.loop-connection-init
loop-connection-init c = writes_begin joins_clauses _

pub loop-connection-preserved : goal.loop-connection-preserved
loop-connection-preserved c =
    let m = timing_in c.args.model.now in
    writes_next joins_clauses _ (delayed_wait m c.args.thread) c.loop-connection.invariant (elim c.if-is_into.branch [
      | then-is_into w ↦ rw w.out-is (where_passed joins_clauses _ (sym c.is_into.ensures ∙ w.if-is_into.true) (delayed_wait_lem m _ w.source_thread-source.ensures w.put_delayed.ensures))
      | else-is_into w ↦ rw w.out-is (where_failed joins_clauses _ (sym c.is_into.ensures ∙ w.if-is_into.false))
    ])
