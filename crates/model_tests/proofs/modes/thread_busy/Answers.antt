use Rattle.model_tests.specs.JobLaws.{busy_by}
use Rattle.model_tests.proofs.modes.thread_busy.Goals as goal

pub returns : goal.returns
returns c = busy_by _ _ _ _ _ _ _ _ _ _ _ c.thread_at-thread.ensures c.start_fault-starts.ensures c.can_activate.ensures c.can_deactivate.ensures c.can_dispatch.ensures c.can_complete.ensures c.can_meet_deadline.ensures c.can_miss.ensures
