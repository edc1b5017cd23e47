use Rattle.std.proofs.Common.{refl, ◌∙◌, arith}
use Rattle.records.specs.Walk.{next_place}
use Rattle.records.specs.declared.Notation.TheVariants as notations
use Rattle.table_format.specs.RecordsAt.{table_part}
use Rattle.table_enabled.specs.Walk.{going_begin, going_next, going_end, records_next, records_over}
use Rattle.table_enabled.proofs.look_from.Goals as goal

pub loop-part-init : goal.loop-part-init
loop-part-init c =
    let b = c.new-part-items.ensures in
    rw (c.into_iter-part-iterator.ensures.into_iter_gives, b.0, b.1.0, b.1.1) (tt, tt, refl, refl, omega arith, omega arith, going_begin _ _ _ _)

pub look_record-seen-requires : goal.look_record-seen-requires
look_record-seen-requires c =
    let i = c.loop-part.invariant in
    let w = table_part c.args.table.now _ _ _ i.2 i.3 c.in-Some.ensures.steps.2 in
    let m = w.within in
    let n = i.5 in
    let k = i.4 in
    let q = c.requires in
    omega arith

pub loop-part-preserved : goal.loop-part-preserved
loop-part-preserved c =
    let i = c.loop-part.invariant in
    let s = c.in-Some.ensures.steps in
    let w = table_part c.args.table.now _ _ _ i.2 i.3 s.2 in
    let n = next_place notations.Table c.args.table.now _ _ w.within refl in
    let k = i.4 in
    let m = i.5 in
    let r = c.look_record-seen.ensures.0 in (
      tt,
      tt,
      s.0 ∙ i.2,
      s.1 ∙ i.3,
      rw w.goes_on (omega arith),
      rw w.goes_on (omega arith),
      rw w.goes_on
          (going_next _ _ _ _ _ _ _ _ _ _ _ (records_next c.args.table.now _ _ _ w.within refl w.record_at) i.6 (rw w.end at c.look_record-seen.ensures.1)),
    )

pub shape_of-output : goal.shape_of-output
shape_of-output c = c.loop-part.invariant.6.goes.kept

pub returns : goal.returns
returns c =
    let i = c.loop-part.invariant in
    going_end _ _ _ _ _ _ _ (records_over c.args.table.now _ (rw i.3 at c.in-None.ensures.steps.2.0)) i.6
