use Rattle.translate_waits.specs.Named.{clause_named}
use Rattle.translate_threads.proofs.parts.put_due_is_now.Goals as goal

pub returns : goal.returns
returns c = clause_named _ _ c.due_var-due.ensures c.same.ensures
