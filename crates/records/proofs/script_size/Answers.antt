use borrow.Author.Tests.{ne_eqb}
use Rattle.records.specs.Format.{record_size}
use Rattle.records.proofs.script_size.Goals as goal

pub returns-in-1 : goal.returns-in-1
unfolding record_size
returns-in-1 c = rw c.in-1.is

pub returns-in-2 : goal.returns-in-2
unfolding record_size
returns-in-2 c = rw c.in-2.is

pub returns-in-3 : goal.returns-in-3
unfolding record_size
returns-in-3 c = rw c.in-3.is

pub returns-in-4 : goal.returns-in-4
unfolding record_size
returns-in-4 c = rw c.in-4.is

pub returns-in-5 : goal.returns-in-5
unfolding record_size
returns-in-5 c = rw c.in-5.is

pub returns-in-6 : goal.returns-in-6
unfolding record_size
returns-in-6 c = rw c.in-6.is

pub returns-in-7 : goal.returns-in-7
unfolding record_size
returns-in-7 c = rw c.in-7.is

pub returns-in-8 : goal.returns-in-8
unfolding record_size
returns-in-8 c = rw c.in-8.is

pub returns-in-9 : goal.returns-in-9
unfolding record_size
returns-in-9 c = rw c.in-9.is

pub returns-in-10 : goal.returns-in-10
unfolding record_size
returns-in-10 c = rw c.in-10.is

pub returns-in-11 : goal.returns-in-11
unfolding record_size
returns-in-11 c = rw c.in-11.is

pub returns-in_default : goal.returns-in_default
unfolding record_size
returns-in_default c = let r = c.in_default.in_default-own.rest in
    simp (ne_eqb _ _ r.0.0.0.0.0.0.0.0.0.0.1, ne_eqb _ _ r.0.0.0.0.0.0.0.0.0.1, ne_eqb _ _ r.0.0.0.0.0.0.0.0.1, ne_eqb _ _ r.0.0.0.0.0.0.0.1, ne_eqb _ _ r.0.0.0.0.0.0.1, ne_eqb _ _ r.0.0.0.0.0.1, ne_eqb _ _ r.0.0.0.0.1, ne_eqb _ _ r.0.0.0.1, ne_eqb _ _ r.0.0.1, ne_eqb _ _ r.0.1, ne_eqb _ _ r.1)
