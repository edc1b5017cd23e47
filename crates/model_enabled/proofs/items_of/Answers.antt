use Rattle.model_enabled.specs.Takes.{items_threads, items_switches}
use Rattle.model_enabled.proofs.items_of.Goals as goal

pub returns-then-kind-lt-REQUEST : goal.returns-then-kind-lt-REQUEST
returns-then-kind-lt-REQUEST c = items_threads _ _ _ _ c.if-kind-lt-REQUEST.true c.threads.ensures c.min.ensures

pub returns : goal.returns
returns c = items_switches _ _ _ _ c.if-kind-lt-REQUEST.false c.switches.ensures c.min-2.ensures
