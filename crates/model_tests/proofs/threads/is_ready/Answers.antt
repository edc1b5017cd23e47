use Rattle.model_tests.specs.JobLaws.{ready_by}
use Rattle.model_tests.proofs.threads.is_ready.Goals as goal

pub returns : goal.returns
returns c = ready_by _ _ _ _ c.code_of.ensures c.if-code_of-ne-WAITING_EXECUTION.false _ _ _ _ _ c.dispatch_time-dispatched.ensures c.thread_at-thread.ensures c.now_of-now.ensures c.falls_due-due.ensures c.threads.ensures
