use Rattle.std.proofs.Common.{sym, ◌∙◌, refl}
use Rattle.table_format.specs.RecordsAt.{table_part}
use Rattle.table_faults.specs.ReadingOn.{read_on, read_refused, read_end, table_long, table_reads}
use Rattle.table_faults.proofs.read_table.Goals as goal

pub returns-then-table-gt-LONGEST_TABLE : goal.returns-then-table-gt-LONGEST_TABLE
returns-then-table-gt-LONGEST_TABLE c = c.in_model.ensures ∙ table_long c.args.table.now c.if-table-gt-LONGEST_TABLE.true

pub loop-part-init : goal.loop-part-init
loop-part-init c =
    let b = c.new-part-items.ensures in
    rw (c.into_iter-part-iterator.ensures.into_iter_gives, b.0, b.1.0, b.1.1)
    (tt, tt, refl, refl, table_reads c.args.table.now c.if-table-gt-LONGEST_TABLE.false)

pub returns-then-not-is_none : goal.returns-then-not-is_none
returns-then-not-is_none c =
    let i = c.loop-part.invariant in
    let w = table_part c.args.table.now _ _ _ i.2 i.3 c.in-Some.ensures.steps.2 in
    c.in_model-then-not-is_none.ensures ∙ rw (w.start, w.end)
    (read_refused c.args.table.now _ _ _ w.within refl (c.record_of-found.ensures ∙ w.record_at)
    c.loop-part.context _ c.cause_of-cause.ensures (sym c.is_none.ensures ∙ c.if-not-is_none.true) ∙ i.4)

pub loop-part-preserved : goal.loop-part-preserved
loop-part-preserved c =
    let i = c.loop-part.invariant in
    let s = c.in-Some.ensures.steps in
    let w = table_part c.args.table.now _ _ _ i.2 i.3 s.2 in (
      tt,
      tt,
      s.0 ∙ i.2,
      s.1 ∙ i.3,
      rw (c.next_context-context.ensures, w.goes_on)
          (read_on c.args.table.now _ _ _ w.within refl (c.record_of-found.ensures ∙ w.record_at)
          c.loop-part.context _ c.cause_of-cause.ensures (sym c.is_none.ensures ∙ c.if-not-is_none.false) ∙ i.4),
    )

pub returns : goal.returns
returns c =
    let i = c.loop-part.invariant in
    c.no_refusal.ensures ∙ read_end c.args.table.now _ _ (rw i.3 at c.in-None.ensures.steps.2.0) ∙ i.4
