use Rattle.std.proofs.Common.{arith}
use Rattle.records.specs.Walk.{slice_part}
use Rattle.table_index.specs.Listed.{listed_head}
use Rattle.table_enabled.specs.Walk.{looks_disabled, looks_unlisted, looks_listed}
use Rattle.table_enabled.proofs.look_listed.Goals as goal

pub returns-then-not-is_enabled : goal.returns-then-not-is_enabled
returns-then-not-is_enabled c = looks_disabled c.args.table.now _ c.args.word c.args.guard c.args.seen c.args.output.now _ c.is_enabled.ensures c.if-not-is_enabled.true

pub returns-then-not-is_listed : goal.returns-then-not-is_listed
returns-then-not-is_listed c = looks_unlisted c.args.table.now _ c.args.word c.args.guard c.args.seen c.args.output.now _ c.is_enabled.ensures _ c.is_listed.ensures c.if-not-is_listed.true

pub slice_bounds-head_of-end : goal.slice_bounds-head_of-end
slice_bounds-head_of-end c = let h = (listed_head c.args.table.now c.args.word c.args.guard _ c.is_listed.ensures c.if-not-is_listed.false).within in omega arith

pub shape_of-output : goal.shape_of-output
shape_of-output c = c.add_enabled.ensures.1

pub returns : goal.returns
returns c = looks_listed c.args.table.now _ c.args.word c.args.guard c.args.seen c.args.output.now _ c.is_enabled.ensures _ c.is_listed.ensures c.if-not-is_enabled.false c.if-not-is_listed.false _ (rw slice_part at c.head_of.ensures) _ _ c.add_enabled.ensures
