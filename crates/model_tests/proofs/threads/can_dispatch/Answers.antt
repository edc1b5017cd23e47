use Rattle.model_tests.specs.TestLaws.{dispatch_unready, dispatch_ready}
use Rattle.std.proofs.Common.{ap, not}
use Rattle.model_tests.proofs.threads.can_dispatch.Goals as goal

pub returns-then-not-dispatches_alone : goal.returns-then-not-dispatches_alone
returns-then-not-dispatches_alone c = dispatch_unready _ _ _ _ c.thread_view_of.ensures _ c.dispatches_alone.ensures (ap not c.if-not-dispatches_alone.true)

pub returns : goal.returns
returns c = dispatch_ready _ _ _ _ c.thread_view_of.ensures _ _ c.dispatches_alone.ensures (ap not c.if-not-dispatches_alone.false) c.awaits_delayed.ensures
