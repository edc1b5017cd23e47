use Rattle.std.proofs.Common.{refl}
use Rattle.table_index.specs.Guards.{untold_clock, untold_none, untold_by}
use Rattle.table_index.proofs.untold.Goals as goal

pub returns-then-variable-eq0 : goal.returns-then-variable-eq0
returns-then-variable-eq0 c = untold_clock c.args.word c.args.guard _ refl c.if-variable-eq0.true

pub returns-then-variable-ge-VARIABLES : goal.returns-then-variable-ge-VARIABLES
returns-then-variable-ge-VARIABLES c = untold_none c.args.word c.args.guard _ refl c.if-variable-eq0.false c.if-variable-ge-VARIABLES.true

pub returns : goal.returns
returns c = untold_by c.args.word c.args.guard _ refl c.if-variable-eq0.false c.if-variable-ge-VARIABLES.false
