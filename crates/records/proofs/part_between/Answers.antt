use Rattle.records.specs.Laws.{drawn_in}
use Rattle.records.proofs.part_between.Goals as goal

pub returns : goal.returns
returns c = drawn_in c.args.bytes.now _ _ _ _ c.min-end.ensures c.min.ensures
