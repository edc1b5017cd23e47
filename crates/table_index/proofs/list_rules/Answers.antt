use Rattle.std.proofs.Common.{sym, ◌∙◌, refl}
use Rattle.table_format.specs.RecordsAt.{table_part}
use Rattle.table_rules.specs.Places.{head_size_lem}
use Rattle.table_index.specs.IndexLaws.{listing_begin, listing_other, listing_size, listing_end, head_at}
use Rattle.table_index.proofs.list_rules.Goals as goal

pub loop-part-init : goal.loop-part-init
loop-part-init c =
    let b = c.new-part-items.ensures in
    rw (c.into_iter-part-iterator.ensures.into_iter_gives, b.0, b.1.0, b.1.1) (tt, tt, refl, refl, listing_begin _ _ _ c.room_for-room.ensures)

pub put_rule-rest-requires : goal.put_rule-rest-requires
put_rule-rest-requires c =
    let i = c.loop-part.invariant in
    (head_at c.args.table.now _ (sym c.is_head.ensures ∙ c.if-is_head.true), rw i.4.size c.room_for-room.ensures)

pub loop-part-preserved-then-is_head : goal.loop-part-preserved-then-is_head
loop-part-preserved-then-is_head c =
    let i = c.loop-part.invariant in
    let s = c.in-Some.ensures.steps in
    let w = table_part c.args.table.now _ _ _ i.2 i.3 s.2 in
    let h = rw w.start at (head_at c.args.table.now _ (sym c.is_head.ensures ∙ c.if-is_head.true)) in
    (tt, tt, s.0 ∙ i.2, s.1 ∙ i.3, rw (w.goes_on, ← head_size_lem c.args.table.now _ h.kind h.within) ((rw w.start at c.put_rule-rest.ensures).one_more _ i.4))

pub loop-part-preserved : goal.loop-part-preserved
loop-part-preserved c =
    let i = c.loop-part.invariant in
    let s = c.in-Some.ensures.steps in
    let w = table_part c.args.table.now _ _ _ i.2 i.3 s.2 in
    (tt, tt, s.0 ∙ i.2, s.1 ∙ i.3, rw w.goes_on (listing_other c.args.table.now _ _ _ _ _ _ i.4 w.within _ refl _ (rw w.start at c.is_head.ensures) c.if-is_head.false))

pub returns : goal.returns
returns c =
    let i = c.loop-part.invariant in
    let e = rw i.3 at c.in-None.ensures.steps.2.0 in
    (listing_size c.args.table.now _ _ _ _ _ _ i.4 e, rw (c.put_item-2.ensures, c.put_item.ensures) (listing_end c.args.table.now _ _ _ _ _ _ i.4 e c.room_for-room.ensures _ c.min.ensures))
