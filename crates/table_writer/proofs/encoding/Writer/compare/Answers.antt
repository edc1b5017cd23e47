use Rattle.table_writer.specs.WritesLaws.{writes_atom}
use Rattle.table_writer.proofs.encoding.Writer.compare.Goals as goal

pub returns : goal.returns
returns c = writes_atom _ c.atom.ensures
