use Rattle.std.proofs.Common.{◌∙◌, ap, arith, not, refl, rules}
use Rattle.model_runs.specs.RunLaws.{comes, run_begins, run_ends, run_stops, run_goes_on}
use Rattle.model_runs.proofs.run.run_in.Goals as goal

pub loop-at-init : goal.loop-at-init
loop-at-init c =
    let b = c.new-at-items.ensures in
    rw (c.into_iter-at-iterator.ensures.into_iter_gives, b.0, b.1)
    (tt, tt, refl, omega arith, omega arith, refl, run_begins _ _ _ c.start_in.ensures)

pub returns-then-not-is_none : goal.returns-then-not-is_none
returns-then-not-is_none c =
    let i = c.loop-at.invariant in
    let s = c.in-Some.ensures.steps.1 in
    let w = comes c.args.script.now _ _ _ _ i.2 s in
    rw (c.in_script-refusal.ensures, s.start) (run_stops _ _ _ _ _ _ _ _ w.here w.within c.step-answer.ensures c.is_none.ensures _ i.6 (ap not c.if-not-is_none.true))

pub loop-at-preserved : goal.loop-at-preserved
loop-at-preserved c =
    let i = c.loop-at.invariant in
    let s = c.in-Some.ensures.steps in
    let w = comes c.args.script.now _ _ _ _ i.2 s.1 in
    let a = i.3 in
    rw w.next_is (
      tt,
      tt,
      s.0 ∙ i.2,
      omega (arith, w.on),
      w.at_most,
      search rules,
      run_goes_on _ _ _ _ _ _ _ _ w.here w.within c.step-answer.ensures c.is_none.ensures _ i.6 (ap not c.if-not-is_none.false),
    )

pub returns : goal.returns
returns c =
    let i = c.loop-at.invariant in
    rw c.no_refusal-refusal.ensures (run_ends _ _ _ _ _ i.6 (rw i.2 at c.in-None.ensures.steps.1.0))
