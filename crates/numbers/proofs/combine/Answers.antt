use borrow.Author.Tests.{ne_eqb}
use Rattle.numbers.specs.Values as values
use Rattle.numbers.proofs.combine.Goals as goal

pub returns-in-0 : goal.returns-in-0
unfolding values.combine
returns-in-0 c = rw c.in-0.is

pub returns-in-1 : goal.returns-in-1
unfolding values.combine
returns-in-1 c = rw c.in-1.is c.plus.ensures

pub returns-in_default : goal.returns-in_default
unfolding values.combine
returns-in_default c = simp (ne_eqb _ _ c.in_default.in_default-own.rest.0.1, ne_eqb _ _ c.in_default.in_default-own.rest.1) c.minus.ensures
