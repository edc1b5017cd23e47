use Rattle.table_enabled.specs.Telling.{copied_front}
use Rattle.table_enabled.proofs.copy_front.Goals as goal

pub returns : goal.returns
returns c = copied_front c.args.list.now c.args.output.now _ _ c.requires.0 c.requires.1 c.copy_from_slice.ensures.after
