use Rattle.translate_modes.specs.Modes.{ignored_wrote}
use Rattle.translate_modes.proofs.put_ignored.Goals as goal

pub returns : goal.returns
returns c = ignored_wrote _ _ c.rule.ensures c.clause.ensures c.compared.ensures c.compared-2.ensures
