use Rattle.std.proofs.Common.{arith}
use Rattle.table_reader.specs.Steps.{place_within, part_within, part_past}
use Rattle.table_reader.proofs.part_at.Goals as goal

pub slice_bounds-result-count : goal.slice_bounds-result-count
slice_bounds-result-count c = let n = place_within c.args.table.now _ _ c.place_after.ensures c.if-at-table.true in
    omega arith

pub slice_bounds-result-start : goal.slice_bounds-result-start
slice_bounds-result-start c = let n = place_within c.args.table.now _ _ c.place_after.ensures c.if-at-table.true in
    omega arith

pub slice_bounds-result-end : goal.slice_bounds-result-end
slice_bounds-result-end c = (place_within c.args.table.now _ _ c.place_after.ensures c.if-at-table.true).1

pub returns-then-at-table : goal.returns-then-at-table
returns-then-at-table c = part_within c.args.table.now _ _ c.place_after.ensures c.if-at-table.true

pub returns : goal.returns
returns c = part_past c.args.table.now _ c.if-at-table.false
