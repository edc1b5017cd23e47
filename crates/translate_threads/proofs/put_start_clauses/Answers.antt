use Rattle.table_writer.specs.Lists.{joins_clauses}
use Rattle.translate_waits.specs.Named.{clause_named, wrote_more}
use Rattle.translate_threads.proofs.put_start_clauses.Goals as goal

pub returns : goal.returns
returns c = wrote_more joins_clauses _ _ c.put_state_is.ensures (wrote_more joins_clauses _ _ c.equals.ensures (wrote_more joins_clauses _ _ (clause_named _ _ c.due_var-due.ensures c.different.ensures) (c.put_immediate_waits.ensures)))
