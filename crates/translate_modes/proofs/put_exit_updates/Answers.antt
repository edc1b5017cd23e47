use Rattle.translate_modes.specs.Modes.{exit_updated}
use Rattle.translate_modes.proofs.put_exit_updates.Goals as goal

pub returns : goal.returns
returns c = exit_updated _ _ c.set.ensures c.set-2.ensures c.set-3.ensures c.put_flags.ensures
