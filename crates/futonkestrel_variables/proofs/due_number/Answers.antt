use Rattle.std.proofs.Common.{refl}
use Rattle.futonkestrel_variables.specs.Laws.{due_past, due_idle, due_made}
use Rattle.futonkestrel_variables.proofs.due_number.Goals as goal

pub returns-then-threads-t : goal.returns-then-threads-t
returns-then-threads-t c = due_past _ _ _ c.threads.ensures c.if-threads-t.true

pub returns-then-not-has_job : goal.returns-then-not-has_job
returns-then-not-has_job c = due_idle _ _ _ c.threads.ensures c.if-threads-t.false c.code_of.ensures c.has_job.ensures c.if-not-has_job.true

pub returns : goal.returns
returns c = due_made _ _ _ c.threads.ensures c.if-threads-t.false c.code_of.ensures c.has_job.ensures c.if-not-has_job.false c.thread_at-thread.ensures c.dispatch_time-dispatched.ensures refl
