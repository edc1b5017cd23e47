use Rattle.translate_modes.specs.Modes.{exit_allowed}
use Rattle.translate_modes.proofs.put_exit_clauses.Goals as goal

pub returns : goal.returns
returns c = exit_allowed _ _ c.put_phase.ensures c.different.ensures c.multiple.ensures
