use Rattle.model_tests.specs.TestLaws.{view_by}
use Rattle.model_tests.proofs.views.thread_view_of.Goals as goal

pub returns : goal.returns
returns c = view_by _ _ _ _ _ _ c.clock_of.ensures c.thread_at.ensures c.job_of.ensures
