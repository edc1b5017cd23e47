use Rattle.table_format.specs.Reading.{cause_of}
use Rattle.table_faults.proofs.cause_of.Goals as goal

pub returns-in-Initial : goal.returns-in-Initial
unfolding cause_of
returns-in-Initial c = rw c.in-Initial.is c.initial_cause.ensures

pub returns-in-Head : goal.returns-in-Head
unfolding cause_of
returns-in-Head c = rw (c.in-Head.is, ← c.head_fits.ensures) c.judged.ensures

pub returns-in-Clause : goal.returns-in-Clause
unfolding cause_of
returns-in-Clause c = rw c.in-Clause.is c.judged-in-Clause.ensures

pub returns-in-Atomic : goal.returns-in-Atomic
unfolding cause_of
returns-in-Atomic c = rw c.in-Atomic.is c.atom_cause.ensures

pub returns-in-Change : goal.returns-in-Change
unfolding cause_of
returns-in-Change c = rw c.in-Change.is c.update_cause.ensures

pub returns-in-Cut : goal.returns-in-Cut
unfolding cause_of
returns-in-Cut c = rw c.in-Cut.is

pub returns-in-Unknown : goal.returns-in-Unknown
unfolding cause_of
returns-in-Unknown c = rw c.in-Unknown.is
