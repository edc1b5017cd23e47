use Rattle.std.proofs.Common.{◌∙◌}
use Rattle.numbers.specs.ValueLaws.{not_less_by_ge}
use Rattle.table_ticks.proofs.is_last_clock.Goals as goal

pub returns : goal.returns
returns c = rw c.value_of.ensures at (c.ge.ensures ∙ not_less_by_ge c.args.now c.value_of.result)
