use Rattle.table_format.specs.Format.{record_to}
use Rattle.table_writer.proofs.encoding.Writer.clause.Goals as goal

pub returns : goal.returns
unfolding record_to
returns c = c.byte.ensures
