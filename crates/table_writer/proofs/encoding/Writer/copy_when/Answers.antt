use Rattle.table_writer.specs.SameBytes.{same_as}
use Rattle.table_writer.specs.WritesLaws.{writes_update}
use Rattle.table_writer.specs.WritesSame.{writes_updated}
use Rattle.table_writer.proofs.encoding.Writer.copy_when.Goals as goal

pub returns : goal.returns
returns c = writes_updated (same_as c.variable.ensures) _ _ _ _ (same_as c.unused.ensures) (writes_update _ c.update.ensures)
