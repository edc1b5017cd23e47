use Rattle.table_writer.specs.Lists.{joins_clauses}
use Rattle.translate_waits.specs.Named.{wrote_more}
use Rattle.translate_waits.proofs.waits.put_immediate.Goals as goal

pub put_beside-requires : goal.put_beside-requires
put_beside-requires c = c.requires

pub put_coming-requires : goal.put_coming-requires
put_coming-requires c = c.requires

pub returns : goal.returns
returns c = wrote_more joins_clauses _ _ c.put_beside.ensures (c.put_coming.ensures)
