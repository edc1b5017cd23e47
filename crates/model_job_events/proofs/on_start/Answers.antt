use Rattle.model_job_events.specs.JobAnswers.{start_made, start_failed}
use Rattle.model_job_events.proofs.on_start.Goals as goal

pub returns-then-start_fault-eq-NO_FAULT : goal.returns-then-start_fault-eq-NO_FAULT
returns-then-start_fault-eq-NO_FAULT c = start_made _ _ _ _ _ _ c.from.ensures c.start_fault.ensures _ c.if-start_fault-eq-NO_FAULT.true c.start.ensures

pub returns : goal.returns
returns c = start_failed _ _ _ _ _ _ c.from.ensures c.start_fault.ensures c.if-start_fault-eq-NO_FAULT.false
