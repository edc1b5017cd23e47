use Rattle.std.proofs.Common.{sym, ◌∙◌, arith, below_more}
use Rattle.model_tests.specs.JobLaws.{delayed_some, delayed_none}
use Rattle.model_tests.proofs.threads.awaits_delayed.Goals as goal

pub loop-c-init : goal.loop-c-init
loop-c-init c = λ k l. absurd (omega arith)

pub returns-then-holds_dispatch : goal.returns-then-holds_dispatch
returns-then-holds_dispatch c = delayed_some _ _ _ _ _ (rw c.connections.ensures at c.min-count.ensures) _ c.loop-c-test.true c.holds_dispatch.ensures c.if-holds_dispatch.true

pub loop-c-preserved : goal.loop-c-preserved
loop-c-preserved c = below_more _ _ c.loop-c.invariant (sym c.holds_dispatch.ensures ∙ c.if-holds_dispatch.false)

pub returns : goal.returns
returns c = delayed_none _ _ _ _ _ (rw c.connections.ensures at c.min-count.ensures) c.loop-c-test.false c.loop-c.invariant
