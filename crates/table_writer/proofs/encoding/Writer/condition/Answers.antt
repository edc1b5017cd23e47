use Rattle.table_writer.specs.WritesLaws.{writes_clause}
use Rattle.table_writer.proofs.encoding.Writer.condition.Goals as goal

pub returns : goal.returns
returns c = writes_clause _ c.clause.ensures c.compare.ensures
