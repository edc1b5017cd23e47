use Rattle.std.proofs.Common.{rules}
use Rattle.table_writer.specs.SameBytes.{same_as, constant_same}
use Rattle.table_writer.specs.WritesSame.{writes_updated}
use Rattle.table_writer.proofs.encoding.Writer.sum.Goals as goal

pub returns : goal.returns
returns c = writes_updated (same_as c.variable.ensures) _ _ _ _ (constant_same c.args.number _ (search rules) c.constant.ensures) c.assigned.ensures
