use Rattle.table_sizes.specs.Leaves.{critical_told, stopped_told}
use Rattle.table_sizes.proofs.items.thread_counts.Goals as goal

pub returns-then-is_critical : goal.returns-then-is_critical
returns-then-is_critical c = critical_told _ _ c.thread_at-thread.ensures c.is_critical.ensures c.if-is_critical.true c.count.ensures

pub returns-else-is_critical : goal.returns-else-is_critical
returns-else-is_critical c = stopped_told _ _ c.thread_at-thread.ensures c.is_critical.ensures c.if-is_critical.false c.count-else-is_critical.ensures
