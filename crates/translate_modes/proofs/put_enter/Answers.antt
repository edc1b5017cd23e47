use Rattle.translate_modes.specs.Modes.{enter_wrote}
use Rattle.translate_modes.proofs.put_enter.Goals as goal

pub returns : goal.returns
returns c = enter_wrote _ _ _ c.switch_at-own.ensures c.rule.ensures c.put_entry_clauses.ensures c.put_entry_updates.ensures
