use Rattle.model_tests.specs.TestLaws.{source_by}
use Rattle.model_tests.proofs.threads.source_of.Goals as goal

pub returns : goal.returns
returns c = source_by _ _ _ _ _ _ _ c.from.ensures c.output_owner-owner.ensures c.from-2.ensures c.thread_view_of.ensures
