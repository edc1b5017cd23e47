use Rattle.translate_modes.specs.Modes.{entry_updated}
use Rattle.translate_modes.proofs.put_entry_updates.Goals as goal

pub returns : goal.returns
returns c = entry_updated _ _ _ c.set.ensures c.copy.ensures c.put_actives.ensures c.put_flags.ensures
