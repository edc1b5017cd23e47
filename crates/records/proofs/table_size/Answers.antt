use borrow.Author.Tests.{ne_eqb}
use Rattle.records.specs.Format.{record_size}
use Rattle.records.proofs.table_size.Goals as goal

pub returns-in-32 : goal.returns-in-32
unfolding record_size
returns-in-32 c = rw c.in-32.is

pub returns-in-33 : goal.returns-in-33
unfolding record_size
returns-in-33 c = rw c.in-33.is

pub returns-in-34 : goal.returns-in-34
unfolding record_size
returns-in-34 c = rw c.in-34.is

pub returns-in-35 : goal.returns-in-35
unfolding record_size
returns-in-35 c = rw c.in-35.is

pub returns-in-36 : goal.returns-in-36
unfolding record_size
returns-in-36 c = rw c.in-36.is

pub returns-in_default : goal.returns-in_default
unfolding record_size
returns-in_default c = let r = c.in_default.in_default-own.rest in
    simp (ne_eqb _ _ r.0.0.0.0.1, ne_eqb _ _ r.0.0.0.1, ne_eqb _ _ r.0.0.1, ne_eqb _ _ r.0.1, ne_eqb _ _ r.1)
