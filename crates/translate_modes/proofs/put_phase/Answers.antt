use Rattle.table_writer.specs.Lists.{joins_clauses}
use Rattle.table_writer.specs.WritesLaws.{writes_both}
use Rattle.translate_modes.proofs.put_phase.Goals as goal

pub returns : goal.returns
returns c = writes_both joins_clauses _ _ c.equals.ensures c.equals-2.ensures
