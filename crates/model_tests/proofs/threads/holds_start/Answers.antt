use Rattle.std.proofs.Common.{rules}
use Rattle.model_tests.specs.TestLaws.{start_by_feeder}
use Rattle.model_tests.proofs.threads.holds_start.Goals as goal

pub returns : goal.returns
returns c = start_by_feeder _ _ _ _ _ _ _ c.feeder.ensures c.is_some_and.ensures (λ v q. search rules)
