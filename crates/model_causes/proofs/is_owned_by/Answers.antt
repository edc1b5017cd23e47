use Rattle.std.proofs.Common.{ne_eqb}
use Rattle.model_format.specs.Reading as reading
use Rattle.model_causes.proofs.is_owned_by.Goals as goal

pub returns-in-1 : goal.returns-in-1
unfolding reading.is_owned_by
returns-in-1 c = rw (c.in-1.is, c.input_owner.ensures)

pub returns-in-2 : goal.returns-in-2
unfolding reading.is_owned_by
returns-in-2 c = rw (c.in-2.is, c.local_at.ensures)

pub returns-in-3 : goal.returns-in-3
unfolding reading.is_owned_by
returns-in-3 c = rw (c.in-3.is, c.output_owner.ensures)

pub returns-in_default : goal.returns-in_default
unfolding reading.is_owned_by
returns-in_default c = let r = c.in_default.in_default-own.rest in simp (ne_eqb _ _ r.0.0.1, ne_eqb _ _ r.0.1, ne_eqb _ _ r.1)
