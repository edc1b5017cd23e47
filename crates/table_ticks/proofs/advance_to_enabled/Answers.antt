use Rattle.std.proofs.Common.{◌≡◌, ◌∙◌, arith}
use Rattle.table_ticks.specs.Ticking.{later_none, later_next, enabled_at, enabled_never, disabled_more}
use Rattle.table_ticks.specs.Copies.{later_size}
use Rattle.table_ticks.proofs.advance_to_enabled.Goals as goal

pub loop-i-init : goal.loop-i-init
loop-i-init c = (later_none _, λ k l. absurd (omega arith))

pub shape_of-bits-then-is_enabled : goal.shape_of-bits-then-is_enabled
shape_of-bits-then-is_enabled c = later_size _ _ _ c.loop-i.invariant.0

pub returns-then-is_enabled : goal.returns-then-is_enabled
returns-then-is_enabled c = enabled_at c.args.table.now _ _ c.args.from _ c.loop-i.invariant.1 c.loop-i-test.true _ _ c.loop-i.invariant.0 c.is_enabled.ensures c.if-is_enabled.true

pub loop-i-preserved : goal.loop-i-preserved
loop-i-preserved c = (c.advance.ensures ∙ rw c.loop-i.invariant.0 (later_next _ _), disabled_more c.args.table.now _ c.args.limit c.args.from _ c.loop-i.invariant.1 _ _ c.loop-i.invariant.0 c.is_enabled.ensures c.if-is_enabled.false)

pub shape_of-bits : goal.shape_of-bits
shape_of-bits c = later_size _ _ _ c.loop-i.invariant.0

pub returns : goal.returns
returns c =
    let e : c.args.limit ≡ c.loop-i.i = omega (arith, c.loop-i.auto.i-end, c.loop-i-test.false) in
    e ∙ enabled_never c.args.table.now _ _ c.args.from _ c.loop-i.invariant.1 c.loop-i.auto.i-end c.loop-i-test.false
