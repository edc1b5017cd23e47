use Rattle.futonkestrel_tables.specs.Laws.{table_unread, table_run}
use Rattle.futonkestrel_tables.proofs.run_table.Goals as goal

pub returns-then-not-is_none : goal.returns-then-not-is_none
returns-then-not-is_none c = table_unread _ _ c.read_table-refusal.ensures c.is_none.ensures c.if-not-is_none.true c.tell_run.ensures

pub returns : goal.returns
returns c = table_run _ _ c.read_table-refusal.ensures c.is_none.ensures c.if-not-is_none.false c.run_table-ran.ensures c.clock_of-clock.ensures c.tell_run-2.ensures
