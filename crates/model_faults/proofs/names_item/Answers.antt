use Rattle.std.proofs.Common.{ne_eqb}
use Rattle.model_format.specs.Reading as reading
use Rattle.model_faults.proofs.names_item.Goals as goal

pub returns-in-1 : goal.returns-in-1
unfolding reading.names_item
returns-in-1 c = rw c.in-1.is

pub returns-in-2 : goal.returns-in-2
unfolding reading.names_item
returns-in-2 c = rw c.in-2.is

pub returns-in-3 : goal.returns-in-3
unfolding reading.names_item
returns-in-3 c = rw c.in-3.is

pub returns-in_default : goal.returns-in_default
unfolding reading.names_item
returns-in_default c = let r = c.in_default.in_default-own.rest in
    simp (ne_eqb _ _ r.0.0.1, ne_eqb _ _ r.0.1, ne_eqb _ _ r.1)
