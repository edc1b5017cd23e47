use Rattle.translate_modes.specs.Modes.{leave_wrote}
use Rattle.translate_modes.proofs.put_leave.Goals as goal

pub returns : goal.returns
returns c = leave_wrote _ _ _ c.switch_at-own.ensures c.rule.ensures c.put_exit_clauses.ensures c.put_exit_updates.ensures
