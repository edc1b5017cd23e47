use Rattle.std.proofs.Common.{sym, length-take-le}
use Rattle.table_enabled.specs.Telling.{by_short, by_all}
use Rattle.table_enabled.proofs.enabled_in.Goals as goal

pub returns-then-variables-lt-VARIABLES : goal.returns-then-variables-lt-VARIABLES
returns-then-variables-lt-VARIABLES c = by_short c.args.table.now c.args.index.now c.args.variables.now c.args.output.now c.if-variables-lt-VARIABLES.true

pub slice_bounds-enabled_on-end : goal.slice_bounds-enabled_on-end
slice_bounds-enabled_on-end c = sym (length-take-le _ c.args.variables.now c.if-variables-lt-VARIABLES.false)

pub returns : goal.returns
returns c = by_all c.args.table.now c.args.index.now c.args.variables.now c.args.output.now c.if-variables-lt-VARIABLES.false _ _ c.enabled_on.ensures
