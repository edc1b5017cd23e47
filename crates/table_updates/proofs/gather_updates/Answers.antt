use Rattle.std.proofs.Common.{rules, Err, ◌≡◌, refl, ◌∙◌}
use Rattle.table_format.specs.RecordsAt.{table_part}
use Rattle.table_updates.specs.Applied.{unmarked_size, gathering_begin, gathering_end, gathering_stops, gathering_on, first_head, first_other, first_cut, first_update}
use Rattle.table_updates.proofs.gather_updates.Goals as goal

pub loop-part-init : goal.loop-part-init
loop-part-init c =
    let b = c.new-part-items.ensures in
    rw (c.into_iter-part-iterator.ensures.into_iter_gives, b.0, b.1.0, b.1.1) (tt, tt, refl, refl, gathering_begin _ _ _ _ c.requires)

pub returns : goal.returns
returns c =
    let i = c.loop-part.invariant in
    (i.4.marks ∙ unmarked_size _ c.requires, gathering_end _ _ _ _ _ _ _ c.args.table.now _ i.4 (rw i.3 at c.in-None.ensures.steps.2.0))

pub returns-in-33 : goal.returns-in-33
returns-in-33 c =
    let i = c.loop-part.invariant in
    let w = table_part c.args.table.now _ _ _ i.2 i.3 c.in-Some.ensures.steps.2 in
    (i.4.marks ∙ unmarked_size _ c.requires, first_head _ _ _ _ _ _ _ c.args.table.now _ i.4 _ _ w _ c.item_or.ensures c.in-33.is)

pub returns-in_err-count-in-36 : goal.returns-in_err-count-in-36
returns-in_err-count-in-36 c =
    let i = c.loop-part.invariant in
    let w = table_part c.args.table.now _ _ _ i.2 i.3 c.in-Some.ensures.steps.2 in
    let u = first_update _ _ _ _ _ _ _ c.args.table.now _ i.4 _ _ w _ c.item_or.ensures c.in-36.is c.if-part-ge-UPDATE_SIZE.true in
    let o = rw (w.end, ← w.goes_on) at c.in_err-count-in-36.ensures in
    let e : c.from_residual.result ≡ Err c.in_err-count-in-36.field-0.0 = search rules in
    (o.1 ∙ i.4.marks ∙ unmarked_size _ c.requires, rw e (gathering_stops _ _ _ _ _ _ _ c.args.table.now _ i.4 _ _ w _ u refl _ _ o.0 o.1 _ o.2))

pub loop-part-preserved-then-part-ge-UPDATE_SIZE : goal.loop-part-preserved-then-part-ge-UPDATE_SIZE
loop-part-preserved-then-part-ge-UPDATE_SIZE c =
    let i = c.loop-part.invariant in
    let s = c.in-Some.ensures.steps in
    let w = table_part c.args.table.now _ _ _ i.2 i.3 s.2 in
    let u = first_update _ _ _ _ _ _ _ c.args.table.now _ i.4 _ _ w _ c.item_or.ensures c.in-36.is c.if-part-ge-UPDATE_SIZE.true in
    let o = rw (w.end, ← w.goes_on) at c.in_ok-count-in-36.ensures in
    (tt, tt, s.0 ∙ i.2, s.1 ∙ i.3, gathering_on _ _ _ _ _ _ _ c.args.table.now _ i.4 _ _ w _ u refl _ _ o.0 o.1 _ o.2)

pub loop-part-preserved-else-part-ge-UPDATE_SIZE : goal.loop-part-preserved-else-part-ge-UPDATE_SIZE
loop-part-preserved-else-part-ge-UPDATE_SIZE c =
    let i = c.loop-part.invariant in
    let s = c.in-Some.ensures.steps in
    let w = table_part c.args.table.now _ _ _ i.2 i.3 s.2 in
    (tt, tt, s.0 ∙ i.2, s.1 ∙ i.3, first_cut _ _ _ _ _ _ _ c.args.table.now _ i.4 _ _ w _ c.item_or.ensures c.in-36.is (search rules))

pub loop-part-preserved : goal.loop-part-preserved
loop-part-preserved c =
    let i = c.loop-part.invariant in
    let s = c.in-Some.ensures.steps in
    let w = table_part c.args.table.now _ _ _ i.2 i.3 s.2 in
    let n : c.item_or.result ≡ 33 → ⊥ = search rules in
    let m : c.item_or.result ≡ 36 → ⊥ = search rules in
    (tt, tt, s.0 ∙ i.2, s.1 ∙ i.3, first_other _ _ _ _ _ _ _ c.args.table.now _ i.4 _ _ w _ c.item_or.ensures n m)
