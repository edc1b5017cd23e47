use Rattle.listing_table.specs.Tables.{table_run, table_refused}
use Rattle.listing_table.proofs.table_listing.Goals as goal

pub returns-then-is_none : goal.returns-then-is_none
returns-then-is_none c = table_run c.args.table.now c.args.script.now c.read_table-refusal.result _ c.read_table-refusal.ensures c.is_none.ensures c.if-is_none.true c.run_listing.ensures

pub returns : goal.returns
returns c = table_refused c.args.table.now c.args.script.now c.read_table-refusal.result _ c.read_table-refusal.ensures c.is_none.ensures c.if-is_none.false c.put_end.ensures
