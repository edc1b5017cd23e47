use Rattle.model_time.specs.QuietLaws.{calm_idle, calm_between, calm_ready, calm_running, calm_completed, calm_other}
use Rattle.std.proofs.Common.{arith}
use Rattle.model_time.proofs.calm.calm_ticks.Goals as goal

pub returns-else-job : goal.returns-else-job
returns-else-job c = (c.to_deactivate-most.ensures.0, calm_idle _ _ _ _ _ c.to_deactivate-most.ensures.1 (omega arith) c.in-0.is c.if-job.false)

pub returns-in-1 : goal.returns-in-1
returns-in-1 c = (omega (arith, c.to_multiple.ensures.0, c.to_deactivate-most.ensures.0), calm_between _ _ _ _ _ c.to_deactivate-most.ensures.1 c.to_multiple.ensures.0 c.in-1.is c.to_multiple.ensures.1)

pub returns-else-clock-eq-NONE : goal.returns-else-clock-eq-NONE
returns-else-clock-eq-NONE c = (omega (arith, c.to_due.ensures.0, c.to_deactivate-most.ensures.0), calm_ready _ _ _ _ _ c.to_deactivate-most.ensures.1 c.to_due.ensures.0 c.in-2.is c.if-clock-eq-NONE.false c.to_due.ensures.1)

pub returns-in-3 : goal.returns-in-3
returns-in-3 c = (omega (arith, c.to_due-in-3.ensures.0, c.to_done.ensures.0, c.to_deactivate-most.ensures.0), calm_running _ _ _ _ _ c.to_deactivate-most.ensures.1 (omega (arith, c.to_due-in-3.ensures.0, c.to_done.ensures.0)) _ c.in-3.is c.to_due-in-3.ensures.0 c.to_done.ensures.1 c.to_due-in-3.ensures.1)

pub returns-in-4 : goal.returns-in-4
returns-in-4 c = (omega (arith, c.to_due-in-4.ensures.0, c.to_deactivate-most.ensures.0), calm_completed _ _ _ _ _ c.to_deactivate-most.ensures.1 c.to_due-in-4.ensures.0 c.in-4.is c.to_due-in-4.ensures.1)

pub returns-in_default : goal.returns-in_default
returns-in_default c = let r = c.in_default.in_default-own.rest in (c.to_deactivate-most.ensures.0, calm_other _ _ _ _ _ c.to_deactivate-most.ensures.1 (omega arith) r.0.0.0.0.1 r.0.0.0.1 r.0.0.1 r.0.1 r.1)
