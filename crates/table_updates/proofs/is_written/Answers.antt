use Rattle.std.proofs.Common.{refl, ◌∙◌}
use Rattle.table_format.specs.RecordsAt.{table_part}
use Rattle.table_updates.specs.Applied.{looking_end, sees_head, sees_other, sees_write, sees_none}
use Rattle.table_updates.proofs.is_written.Goals.{else-kind-eq-TABLE_UPDATE-via-then-kind-eq-TABLE_UPDATE+else-writes_to, else-kind-eq-TABLE_UPDATE-via-else-kind-eq-TABLE_UPDATE}
use Rattle.table_updates.proofs.is_written.Goals as goal

pub loop-part-init : goal.loop-part-init
loop-part-init c =
    let b = c.new-part-items.ensures in
    rw (c.into_iter-part-iterator.ensures.into_iter_gives, b.0, b.1.0, b.1.1) (tt, tt, refl, refl, λ n. refl)

pub returns-then-kind-eq-TABLE_RULE : goal.returns-then-kind-eq-TABLE_RULE
returns-then-kind-eq-TABLE_RULE c =
    let i = c.loop-part.invariant in
    let w = table_part c.args.table.now _ _ _ i.2 i.3 c.in-Some.ensures.steps.2 in
    sees_head _ _ _ _ _ i.4 _ _ w _ c.kind_of-kind.ensures c.if-kind-eq-TABLE_RULE.true

pub returns : goal.returns
returns c =
    let i = c.loop-part.invariant in
    looking_end _ c.args.table.now c.args.from c.args.target _ i.4 (rw i.3 at c.in-None.ensures.steps.2.0)

pub returns-then-writes_to : goal.returns-then-writes_to
returns-then-writes_to c =
    let i = c.loop-part.invariant in
    let w = table_part c.args.table.now _ _ _ i.2 i.3 c.in-Some.ensures.steps.2 in
    sees_write _ _ _ _ _ i.4 _ _ w _ c.kind_of-kind.ensures c.if-kind-eq-TABLE_UPDATE.true _ c.writes_to.ensures c.if-writes_to.true

pub loop-part-preserved : goal.loop-part-preserved
loop-part-preserved c =
    let i = c.loop-part.invariant in
    let s = c.in-Some.ensures.steps in
    let w = table_part c.args.table.now _ _ _ i.2 i.3 s.2 in (
      tt,
      tt,
      s.0 ∙ i.2,
      s.1 ∙ i.3,
      elim c.else-kind-eq-TABLE_UPDATE.branch [
        | else-kind-eq-TABLE_UPDATE-via-then-kind-eq-TABLE_UPDATE+else-writes_to u ↦
            sees_none _ _ _ _ _ i.4 _ _ w _ c.kind_of-kind.ensures u.if-kind-eq-TABLE_UPDATE.true _ u.writes_to.ensures u.if-writes_to.false
        | else-kind-eq-TABLE_UPDATE-via-else-kind-eq-TABLE_UPDATE u ↦
            sees_other _ _ _ _ _ i.4 _ _ w _ c.kind_of-kind.ensures c.if-kind-eq-TABLE_RULE.false u.if-kind-eq-TABLE_UPDATE.false
      ],
    )
