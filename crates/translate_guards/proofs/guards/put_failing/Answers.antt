use Rattle.table_writer.specs.WritesLaws.{writes_clause}
use Rattle.translate_guards.proofs.guards.put_failing.Goals as goal

pub put_negated-requires : goal.put_negated-requires
put_negated-requires c = c.requires

pub returns : goal.returns
returns c = writes_clause _ c.clause.ensures (c.put_negated.ensures)
