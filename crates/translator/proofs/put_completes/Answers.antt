use Rattle.table_writer.specs.Lists.{joins_rules}
use Rattle.table_writer.specs.WritesLaws.{writes_begin, writes_next}
use Rattle.translator.proofs.put_completes.Goals as goal

pub loop-thread-init : goal.loop-thread-init
loop-thread-init c = writes_begin joins_rules _

pub loop-thread-preserved : goal.loop-thread-preserved
loop-thread-preserved c = writes_next joins_rules _ _ c.loop-thread.invariant c.put_complete.ensures
