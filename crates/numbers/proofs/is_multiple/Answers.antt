use Rattle.numbers.specs.MultipleLaws.{multiple_of_none, multiple_by_rest}
use Rattle.numbers.proofs.is_multiple.Goals as goal

pub returns-then-p-eq0 : goal.returns-then-p-eq0
returns-then-p-eq0 c = multiple_of_none _ _ c.if-p-eq0.true

pub returns-else-p-eq0 : goal.returns-else-p-eq0
returns-else-p-eq0 c = multiple_by_rest _ _ c.if-p-eq0.false
