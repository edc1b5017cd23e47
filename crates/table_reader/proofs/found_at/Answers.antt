use Rattle.std.proofs.Common.{◌∙◌, ap}
use Rattle.table_format.specs.Format.{record_of}
use Rattle.table_reader.specs.Steps.{found_within, found_past}
use Rattle.table_reader.proofs.found_at.Goals as goal

pub returns-then-at-table : goal.returns-then-at-table
returns-then-at-table c = found_within c.args.table.now _ _ c.if-at-table.true (c.record_of.ensures ∙ ap record_of c.part_at.ensures)

pub returns-else-at-table : goal.returns-else-at-table
returns-else-at-table c = found_past c.args.table.now _ c.if-at-table.false
