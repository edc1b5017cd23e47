use Rattle.std.proofs.Common.{sym, length-take-le}
use Rattle.table_format.specs.Variables.{variables}
use Rattle.futonkestrel_tables.specs.Laws.{step_short, stepped}
use Rattle.futonkestrel_tables.proofs.table_step.Goals as goal

pub returns-then-variables-lt-VARIABLES : goal.returns-then-variables-lt-VARIABLES
returns-then-variables-lt-VARIABLES c = step_short _ _ _ _ c.if-variables-lt-VARIABLES.true

pub slice_bounds-step_by-end-2 : goal.slice_bounds-step_by-end-2
slice_bounds-step_by-end-2 c = sym (length-take-le variables c.args.variables.now c.if-variables-lt-VARIABLES.false)

pub returns : goal.returns
returns c = stepped c.args.table.now c.args.index.now c.args.variables.now c.args.event.now c.if-variables-lt-VARIABLES.false c.slice_known-1.given c.event_of-event.ensures _ _ c.step_by.ensures c.slice_known-2-1.given
