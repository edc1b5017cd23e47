use Rattle.table_index.specs.Listed.{rest_fails, rest_holds}
use Rattle.table_index.proofs.rest_holds.Goals as goal

pub returns-then-not-is_enabled : goal.returns-then-not-is_enabled
returns-then-not-is_enabled c = rest_fails c.args.table.now c.args.word c.args.guard _ _ c.untold.ensures _ c.is_enabled.ensures c.if-not-is_enabled.true

pub returns : goal.returns
returns c = rest_holds c.args.table.now c.args.word c.args.guard _ _ c.untold.ensures _ c.is_enabled.ensures c.if-not-is_enabled.false _ c.is_listed.ensures
