use Rattle.std.proofs.Common.{sym, ◌∙◌, arith}
use Rattle.table_counts.specs.Bounds.{transition_most}
use Rattle.table_counts.specs.Loops.{counting_begins, counting_adds, counting_next, counting_ends}
use Rattle.table_counts.proofs.transitions.add_transitions.Goals as goal

pub loop-k-init : goal.loop-k-init
loop-k-init c = (counting_begins _ _ c.nothing-sum.ensures, c.requires.1.0)

pub transition_counts-own-requires : goal.transition_counts-own-requires
transition_counts-own-requires c = let pre = c.requires in
    let e = c.transitions-k-end.ensures in
    let l = c.loop-k-test.true in
    (pre.0, (omega arith, (c.loop-k.invariant.1, pre.1.1)))

pub add-sum-requires : goal.add-sum-requires
add-sum-requires c = let w = c.requires.0 in
    let few = w.behavior.transitions in
    let e = c.transitions-k-end.ensures in
    counting_adds _ _ c.loop-k.invariant.0 c.loop-k-test.true (omega arith) (λ j l. transition_most _ w j (omega arith)) c.transition_counts-own.ensures

pub note_transition-requires : goal.note_transition-requires
note_transition-requires c = let e = c.transitions-k-end.ensures in
    let l = c.loop-k-test.true in
    (c.requires.0, (omega arith, c.loop-k.invariant.1))

pub loop-k-preserved : goal.loop-k-preserved
loop-k-preserved c = (counting_next _ _ c.loop-k.invariant.0 c.loop-k-test.true c.transition_counts-own.ensures c.add-sum.ensures, c.note_transition.ensures)

pub shape_of-noted : goal.shape_of-noted
shape_of-noted c = c.loop-k.invariant.1.size ∙ sym c.requires.1.0.size

pub returns : goal.returns
returns c = counting_ends _ _ c.loop-k.invariant.0 _ c.transitions-k-end.ensures c.loop-k-test.false
