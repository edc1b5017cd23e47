use Rattle.model_tests.specs.TestLaws.{dispatch_by_feeder}
use Rattle.model_tests.proofs.threads.holds_dispatch.Goals as goal

pub returns : goal.returns
returns c = dispatch_by_feeder _ _ _ _ _ _ c.feeder.ensures c.is_some_and.ensures
