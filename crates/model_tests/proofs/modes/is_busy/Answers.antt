use Rattle.std.proofs.Common.{◌∙◌, ap}
use Rattle.model_semantics.specs.declared.Clock.{Clock}
use Rattle.model_tests.specs.JobLaws.{busy_thread, busy_nothing, busy_pending}
use Rattle.model_tests.proofs.modes.is_busy.Goals as goal

pub returns-then-threads_busy : goal.returns-then-threads_busy
returns-then-threads_busy c = busy_thread _ _ _ c.threads_busy.ensures c.if-threads_busy.true

pub returns-then-switches-pending : goal.returns-then-switches-pending
returns-then-switches-pending c = busy_nothing _ _ _ c.threads_busy.ensures c.if-threads_busy.false _ (c.from-pending.ensures ∙ ap (λ (k : Clock). k.pending) c.clock_of-clock.ensures) (rw c.switches.ensures at c.if-switches-pending.true)

pub returns : goal.returns
returns c = busy_pending _ _ _ c.threads_busy.ensures c.if-threads_busy.false _ (c.from-pending.ensures ∙ ap (λ (k : Clock). k.pending) c.clock_of-clock.ensures) _ (rw c.switches.ensures at c.if-switches-pending.false) c.switch_busy.ensures
