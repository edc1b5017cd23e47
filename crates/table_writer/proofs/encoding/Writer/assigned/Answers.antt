use Rattle.table_writer.specs.WritesLaws.{writes_update}
use Rattle.table_writer.proofs.encoding.Writer.assigned.Goals as goal

pub returns : goal.returns
returns c = writes_update _ c.update.ensures
