use Rattle.std.proofs.Common.{◌∙◌}
use Rattle.numbers.specs.ValueLaws.{less_by_lt}
use Rattle.table_enabled.proofs.is_before_last.Goals as goal

pub returns : goal.returns
returns c = rw (c.value_of.ensures, c.value_in.ensures) at (c.lt.ensures ∙ less_by_lt c.value_in.result c.value_of.result)
