use Rattle.std.proofs.Common.{refl}
use Rattle.futonkestrel_variables.specs.Laws.{end_past, end_idle, end_made}
use Rattle.futonkestrel_variables.proofs.end_number.Goals as goal

pub returns-then-threads-t : goal.returns-then-threads-t
returns-then-threads-t c = end_past _ _ _ c.threads.ensures c.if-threads-t.true

pub returns-then-code_of-ne-EXECUTION : goal.returns-then-code_of-ne-EXECUTION
returns-then-code_of-ne-EXECUTION c = end_idle _ _ _ c.threads.ensures c.if-threads-t.false c.code_of.ensures c.if-code_of-ne-EXECUTION.true

pub returns : goal.returns
returns c = end_made _ _ _ c.threads.ensures c.if-threads-t.false c.code_of.ensures c.if-code_of-ne-EXECUTION.false c.now_of-clock.ensures c.length_of-length.ensures c.spent_of-spent.ensures c.saturating_sub.ensures refl
