use Rattle.table_writer.specs.WritesLaws.{writes_clause}
use Rattle.translate_guards.proofs.guards.put_plain.Goals as goal

pub put_with-requires : goal.put_with-requires
put_with-requires c = c.requires

pub returns : goal.returns
returns c = writes_clause _ c.clause.ensures (c.put_with.ensures)
