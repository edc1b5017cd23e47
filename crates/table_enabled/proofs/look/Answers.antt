use Rattle.table_enabled.specs.Walk.{told_new}
use Rattle.table_enabled.proofs.look.Goals as goal

pub returns : goal.returns
returns c = let n = c.new-all.ensures in told_new c.args.table.now c.args.index.now _ _ n.1.0 n.1.1 _ _ _ _ _ _ c.look_words-seen.ensures.1 c.look_from.ensures
