use Rattle.std.proofs.Common.{arith}
use Rattle.model_time.specs.CalmLaws.{switches_off, switches_in_lem, switches_out}
use Rattle.model_time.proofs.quiet.switches_calm.Goals as goal

pub returns-then-switches-pending : goal.returns-then-switches-pending
returns-then-switches-pending c = (omega arith, switches_off _ _ _ _ _ c.clock_of-clock.ensures c.from-pending.ensures _ c.switches.ensures c.if-switches-pending.true)

pub returns-then-clock-eq-REQUESTED : goal.returns-then-clock-eq-REQUESTED
returns-then-clock-eq-REQUESTED c = (c.to_multiple.ensures.0, switches_in_lem _ _ _ _ _ c.clock_of-clock.ensures c.from-pending.ensures _ c.switch_at-switch.ensures c.if-clock-eq-REQUESTED.true c.to_multiple.ensures.1)

pub returns-else-clock-eq-REQUESTED : goal.returns-else-clock-eq-REQUESTED
returns-else-clock-eq-REQUESTED c = (c.to_multiple-else-clock-eq-REQUESTED.ensures.0, switches_out _ _ _ _ _ c.clock_of-clock.ensures c.from-pending.ensures _ c.switch_at-switch.ensures c.if-clock-eq-REQUESTED.false c.to_multiple-else-clock-eq-REQUESTED.ensures.1)
