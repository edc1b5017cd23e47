use Rattle.table_sizes.specs.Leaves.{input_begun}
use Rattle.std.proofs.Common.{rules}
use Rattle.table_sizes.proofs.starts.input_starts.Goals as goal

pub overflow_add-result : goal.overflow_add-result
overflow_add-result c = let f = c.value_starts-own.ensures.1 in search rules

pub returns : goal.returns
returns c = input_begun _ _ c.value_starts-own.ensures.0 c.input_at.ensures
