use Rattle.std.proofs.Common.{rules}
use Rattle.table_writer.specs.SameBytes.{same_as, constant_same}
use Rattle.table_writer.specs.WritesSame.{writes_updated}
use Rattle.table_writer.proofs.encoding.Writer.set.Goals as goal

pub returns : goal.returns
returns c = writes_updated (constant_same c.args.number _ (search rules) c.constant.ensures) _ _ _ _ (same_as c.unused.ensures) c.assigned.ensures
