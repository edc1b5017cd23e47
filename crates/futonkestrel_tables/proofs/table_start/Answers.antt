use Rattle.futonkestrel_tables.specs.Laws.{start_refused, start_short, start_lent_lem}
use Rattle.futonkestrel_tables.proofs.table_start.Goals as goal

pub returns-then-not-is_none : goal.returns-then-not-is_none
returns-then-not-is_none c = start_refused _ _ c.read_table-cause.ensures c.is_none.ensures c.if-not-is_none.true

pub returns-then-lent-lt-VARIABLES : goal.returns-then-lent-lt-VARIABLES
returns-then-lent-lt-VARIABLES c = start_short _ _ c.read_table-cause.ensures c.is_none.ensures c.if-not-is_none.false c.if-lent-lt-VARIABLES.true

pub returns : goal.returns
returns c = start_lent_lem _ _ c.read_table-cause.ensures c.is_none.ensures c.if-not-is_none.false c.if-lent-lt-VARIABLES.false c.start_variables.ensures c.put_variables.ensures
