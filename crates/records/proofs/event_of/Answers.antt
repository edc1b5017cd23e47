use mathlib.Core.Path.{◌∙◌}
use Rattle.records.specs.Laws.{event_none, event_tick, event_start, event_other}
use Rattle.records.proofs.event_of.Goals as goal

pub returns-then-not-is_whole : goal.returns-then-not-is_whole
returns-then-not-is_whole c = event_none c.args.part.now _ c.is_whole.ensures c.if-not-is_whole.true

pub returns-then-kind-eq-TICK : goal.returns-then-kind-eq-TICK
returns-then-kind-eq-TICK c = event_tick c.args.part.now _ c.is_whole.ensures _ _ c.if-not-is_whole.false c.item_or-kind.ensures
    c.if-kind-eq-TICK.true (c.from-amount.ensures ∙ c.u16_at.ensures)

pub returns-then-kind-eq-START : goal.returns-then-kind-eq-START
returns-then-kind-eq-START c = event_start c.args.part.now _ c.is_whole.ensures _ _ c.if-not-is_whole.false c.item_or-kind.ensures
    _ c.if-kind-eq-TICK.false c.item_or-id.ensures c.if-kind-eq-START.true c.u32_at-amount.ensures

pub returns : goal.returns
returns c = event_other c.args.part.now _ c.is_whole.ensures _ 0 c.if-not-is_whole.false c.item_or-kind.ensures
    _ c.if-kind-eq-TICK.false c.item_or-id.ensures c.if-kind-eq-START.false
