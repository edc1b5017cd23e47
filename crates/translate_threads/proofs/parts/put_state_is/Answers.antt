use Rattle.translate_waits.specs.Named.{clause_named}
use Rattle.translate_threads.proofs.parts.put_state_is.Goals as goal

pub returns : goal.returns
returns c = clause_named _ _ c.state_var-state.ensures c.equals.ensures
