use Rattle.std.proofs.Common.{refl, ◌∙◌}
use Rattle.table_format.specs.RecordsAt.{table_part}
use Rattle.table_search.specs.Enabled.{find_on, find_end}
use Rattle.table_search.proofs.find_from.Goals as goal

pub loop-part-init : goal.loop-part-init
loop-part-init c =
    let b = c.new-part-items.ensures in
    rw (c.into_iter-part-iterator.ensures.into_iter_gives, b.0, b.1.0, b.1.1) (tt, tt, refl, refl, refl)

pub loop-part-preserved : goal.loop-part-preserved
loop-part-preserved c =
    let i = c.loop-part.invariant in
    let s = c.in-Some.ensures.steps in
    let w = table_part c.args.table.now _ _ _ i.2 i.3 s.2 in
    (tt, tt, s.0 ∙ i.2, s.1 ∙ i.3, rw w.goes_on (find_on c.args.table.now _ _ _ w.within refl w.record_at _ c.args.event _ _ (rw w.end at c.found_after-found.ensures)) ∙ i.4)

pub returns : goal.returns
returns c =
    let i = c.loop-part.invariant in
    find_end c.args.table.now _ c.args.event _ _ (rw i.3 at c.in-None.ensures.steps.2.0) ∙ i.4
