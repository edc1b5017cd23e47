use Rattle.std.proofs.Common.{sym, ◌∙◌, arith, below_more}
use Rattle.model_tests.specs.JobLaws.{threads_some, threads_none}
use Rattle.model_tests.proofs.modes.threads_busy.Goals as goal

pub loop-t-init : goal.loop-t-init
loop-t-init c = λ k l. absurd (omega arith)

pub returns-then-acts : goal.returns-then-acts
returns-then-acts c = threads_some _ _ _ _ (rw c.threads.ensures at c.min-count.ensures) _ c.loop-t-test.true c.acts.ensures c.if-acts.true

pub loop-t-preserved : goal.loop-t-preserved
loop-t-preserved c = below_more _ _ c.loop-t.invariant (sym c.acts.ensures ∙ c.if-acts.false)

pub returns : goal.returns
returns c = threads_none _ _ _ _ (rw c.threads.ensures at c.min-count.ensures) c.loop-t-test.false c.loop-t.invariant
