use Rattle.futonkestrel.specs.Laws.{exported}
use Rattle.futonkestrel.proofs.fk_translate.Goals as goal

pub returns : goal.returns
returns c = exported c.translate-t.ensures c.tell_translation.ensures
