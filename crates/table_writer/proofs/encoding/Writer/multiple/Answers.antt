use Rattle.std.proofs.Common.{rules}
use Rattle.table_writer.specs.SameBytes.{constant_same}
use Rattle.table_writer.specs.WritesSame.{writes_condition}
use Rattle.table_writer.proofs.encoding.Writer.multiple.Goals as goal

pub returns : goal.returns
returns c = writes_condition (constant_same c.args.number _ (search rules) c.constant.ensures) _ _ c.condition.ensures
