use Rattle.std.proofs.Common.{ne_eqb}
use Rattle.model_format.specs.Reading as reading
use Rattle.model_faults.proofs.in_order.Goals as goal

pub returns-in-1 : goal.returns-in-1
unfolding reading.in_order
returns-in-1 c = rw c.in-1.is

pub returns-in-9 : goal.returns-in-9
unfolding reading.in_order
returns-in-9 c = rw c.in-9.is

pub returns-in-10 : goal.returns-in-10
unfolding reading.in_order
returns-in-10 c = rw c.in-10.is

pub returns-in_default : goal.returns-in_default
unfolding reading.in_order
returns-in_default c = let r = c.in_default.in_default-own.rest in
    simp (ne_eqb _ _ r.0.0.1, ne_eqb _ _ r.0.1, ne_eqb _ _ r.1, c.least_kind.ensures)
