use Rattle.translate_threads.specs.Deactivates.{wrote_critical, wrote_stopped}
use Rattle.translate_threads.proofs.put_deactivate.Goals as goal

pub returns-then-not-is_critical : goal.returns-then-not-is_critical
returns-then-not-is_critical c = wrote_stopped _ _ c.thread_at.ensures c.is_critical.ensures c.put_deactivate_rule.ensures c.if-not-is_critical.true c.put_stops.ensures

pub returns-else-not-is_critical : goal.returns-else-not-is_critical
returns-else-not-is_critical c = wrote_critical _ _ c.thread_at.ensures c.is_critical.ensures c.put_deactivate_rule.ensures c.if-not-is_critical.false
