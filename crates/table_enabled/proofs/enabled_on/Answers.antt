use Rattle.std.proofs.Common.{arith}
use Rattle.table_enabled.specs.Telling.{tells_short, tells_copied, tells_walked}
use Rattle.table_enabled.proofs.enabled_on.Goals as goal

pub returns-then-output-count : goal.returns-then-output-count
returns-then-output-count c = tells_short c.args.table.now c.args.index.now c.args.bits.now _ c.is_before_last.ensures _ _ _ c.look-seen.ensures c.args.output.now c.if-output-count.true

pub returns-then-count : goal.returns-then-count
returns-then-count c = tells_copied c.args.table.now c.args.index.now c.args.bits.now _ c.is_before_last.ensures _ _ _ c.look-seen.ensures c.args.output.now c.if-output-count.false _ (omega arith) c.copy_front.ensures

pub returns : goal.returns
returns c = tells_walked c.args.table.now c.args.index.now c.args.bits.now _ c.is_before_last.ensures _ _ _ c.look-seen.ensures c.args.output.now c.if-output-count.false _ _ c.look.ensures
