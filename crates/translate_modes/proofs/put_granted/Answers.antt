use Rattle.translate_modes.specs.Modes.{granted_wrote}
use Rattle.translate_modes.proofs.put_granted.Goals as goal

pub returns : goal.returns
returns c = granted_wrote _ _ c.rule.ensures c.equals.ensures c.equals-2.ensures c.set.ensures c.set-2.ensures
