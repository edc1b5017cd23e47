use Rattle.table_format.specs.Format.{record_to}
use Rattle.table_writer.specs.WritesLaws.{writes_on}
use Rattle.table_writer.proofs.encoding.Writer.head.Goals as goal

pub returns : goal.returns
unfolding record_to
returns c = writes_on _ _ (writes_on _ _ (writes_on _ _ (writes_on _ _ c.byte.ensures c.byte-2.ensures) c.byte-3.ensures) c.u32.ensures) c.u32-2.ensures
