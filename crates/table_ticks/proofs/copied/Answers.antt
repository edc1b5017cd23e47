use Rattle.table_ticks.specs.Copies.{copied_front}
use Rattle.table_ticks.proofs.copied.Goals as goal

pub returns : goal.returns
returns c = copied_front c.args.bits.now _ _ c.min-count.ensures c.copy_from_slice.ensures.after
