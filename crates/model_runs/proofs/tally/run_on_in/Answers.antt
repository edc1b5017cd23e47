use Rattle.std.proofs.Common.{◌∙◌, arith, rules}
use Rattle.model_runs.specs.RunLaws.{comes, tally_ends, run_takes, run_refuses}
use Rattle.model_runs.proofs.tally.run_on_in.Goals as goal

pub loop-listed-preserved-then-is_none : goal.loop-listed-preserved-then-is_none
loop-listed-preserved-then-is_none c =
    let i = c.loop-listed.invariant in
    let s = c.in-Some.ensures.steps in
    let w = comes c.args.script.now _ _ _ _ i.2 s.1 in
    let a = i.3 in
    rw w.next_is (
      tt,
      tt,
      s.0 ∙ i.2,
      omega (arith, w.on),
      w.at_most,
      search rules,
      run_takes _ _ _ _ _ _ _ _ w.here w.within c.step-answer.ensures c.is_none.ensures _ _ i.6 c.if-is_none.true,
    )

pub loop-listed-preserved : goal.loop-listed-preserved
loop-listed-preserved c =
    let i = c.loop-listed.invariant in
    let s = c.in-Some.ensures.steps in
    let w = comes c.args.script.now _ _ _ _ i.2 s.1 in
    let a = i.3 in
    rw w.next_is (
      tt,
      tt,
      s.0 ∙ i.2,
      omega (arith, w.on),
      w.at_most,
      search rules,
      run_refuses _ _ _ _ _ _ _ _ w.here w.within c.step-answer.ensures c.is_none.ensures _ _ i.6 c.if-is_none.false,
    )

pub returns : goal.returns
returns c =
    let i = c.loop-listed.invariant in
    tally_ends _ _ _ _ _ _ i.6 (rw i.2 at c.in-None.ensures.steps.1.0)
