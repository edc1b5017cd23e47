use Rattle.std.proofs.Common.{refl}
use Rattle.translate_waits.specs.Named.{update_named}
use Rattle.translate_threads.proofs.parts.put_state.Goals as goal

pub returns : goal.returns
returns c = update_named _ _ _ refl c.state_var-state.ensures refl c.set.ensures
