use Rattle.table_writer.specs.WritesLaws.{writes_update}
use Rattle.translate_complete.proofs.updates.put_assigned.Goals as goal

pub returns : goal.returns
returns c = writes_update _ c.update.ensures
