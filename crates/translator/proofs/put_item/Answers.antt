use borrow.Author.Tests.{ne_eqb}
use Rattle.translation.specs.Rules.{timing_rules}
use Rattle.translator.specs.Groups.{no_rules}
use Rattle.translator.proofs.put_item.Goals as goal

pub put_dispatch-requires : goal.put_dispatch-requires
put_dispatch-requires c = c.requires

pub put_start-requires : goal.put_start-requires
put_start-requires c = c.requires

pub put_deadline-requires : goal.put_deadline-requires
put_deadline-requires c = c.requires

pub put_enter-requires : goal.put_enter-requires
put_enter-requires c = c.requires

pub put_leave-requires : goal.put_leave-requires
put_leave-requires c = c.requires

pub returns-in-1 : goal.returns-in-1
unfolding timing_rules
returns-in-1 c = rw c.in-1.is c.put_activate.ensures

pub returns-in-2 : goal.returns-in-2
unfolding timing_rules
returns-in-2 c = rw c.in-2.is c.put_deactivate.ensures

pub returns-in-3 : goal.returns-in-3
unfolding timing_rules
returns-in-3 c = rw c.in-3.is c.put_dispatch.ensures

pub returns-in-4 : goal.returns-in-4
unfolding timing_rules
returns-in-4 c = rw c.in-4.is c.put_start.ensures

pub returns-in-6 : goal.returns-in-6
unfolding timing_rules
returns-in-6 c = rw c.in-6.is c.put_deadline.ensures

pub returns-in-7 : goal.returns-in-7
unfolding timing_rules
returns-in-7 c = rw c.in-7.is c.put_miss.ensures

pub returns-in-8 : goal.returns-in-8
unfolding timing_rules
returns-in-8 c = rw c.in-8.is c.put_request.ensures

pub returns-in-9 : goal.returns-in-9
unfolding timing_rules
returns-in-9 c = rw c.in-9.is c.put_enter.ensures

pub returns-in-10 : goal.returns-in-10
unfolding timing_rules
returns-in-10 c = rw c.in-10.is c.put_leave.ensures

pub returns-in_default : goal.returns-in_default
unfolding timing_rules
returns-in_default c = no_rules _ _ _ (simp (ne_eqb _ 1 c.in_default.in_default-own.rest.0.0.0.0.0.0.0.0.1, ne_eqb _ 2 c.in_default.in_default-own.rest.0.0.0.0.0.0.0.1, ne_eqb _ 3 c.in_default.in_default-own.rest.0.0.0.0.0.0.1, ne_eqb _ 4 c.in_default.in_default-own.rest.0.0.0.0.0.1, ne_eqb _ 6 c.in_default.in_default-own.rest.0.0.0.0.1, ne_eqb _ 7 c.in_default.in_default-own.rest.0.0.0.1, ne_eqb _ 8 c.in_default.in_default-own.rest.0.0.1, ne_eqb _ 9 c.in_default.in_default-own.rest.0.1, ne_eqb _ 10 c.in_default.in_default-own.rest.1))
