use Rattle.table_format.specs.Format.{record_to}
use Rattle.table_writer.specs.WritesLaws.{writes_on}
use Rattle.table_writer.proofs.encoding.Writer.initial.Goals as goal

pub returns : goal.returns
unfolding record_to
returns c = writes_on _ _ (writes_on _ _ c.byte.ensures c.u16.ensures) c.value.ensures
