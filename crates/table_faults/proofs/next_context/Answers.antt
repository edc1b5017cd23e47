use Rattle.table_format.specs.Reading.{next_context}
use Rattle.table_faults.proofs.next_context.Goals as goal

pub returns-in-Initial : goal.returns-in-Initial
unfolding next_context
returns-in-Initial c = rw c.in-Initial.is

pub returns-in-Head : goal.returns-in-Head
unfolding next_context
returns-in-Head c = rw c.in-Head.is

pub returns-in-Clause : goal.returns-in-Clause
unfolding next_context
returns-in-Clause c = rw c.in-Clause.is

pub returns-in-Atomic : goal.returns-in-Atomic
unfolding next_context
returns-in-Atomic c = rw c.in-Atomic.is

pub returns-in-Change : goal.returns-in-Change
unfolding next_context
returns-in-Change c = rw c.in-Change.is

pub returns-in-Cut : goal.returns-in-Cut
unfolding next_context
returns-in-Cut c = rw c.in-Cut.is

pub returns-in-Unknown : goal.returns-in-Unknown
unfolding next_context
returns-in-Unknown c = rw c.in-Unknown.is
