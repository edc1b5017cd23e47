use Rattle.model_tests.specs.Jobs.{may_act}
use Rattle.std.proofs.Common.{sym, ◌∙◌, ne_eqb}
use Rattle.model_tests.proofs.jobs.may_act.Goals as goal

pub returns-then-deactivates : goal.returns-then-deactivates
unfolding may_act
returns-then-deactivates c = rw (sym c.deactivates.ensures ∙ c.if-deactivates.true)

pub returns-in-0 : goal.returns-in-0
unfolding may_act
returns-in-0 c = rw (sym c.deactivates.ensures ∙ c.if-deactivates.false, c.in-0.is)

pub returns-in-1 : goal.returns-in-1
unfolding may_act
returns-in-1 c = rw (sym c.deactivates.ensures ∙ c.if-deactivates.false, c.in-1.is, c.is_multiple.ensures)

pub returns-in-2 : goal.returns-in-2
unfolding may_act
returns-in-2 c = rw (sym c.deactivates.ensures ∙ c.if-deactivates.false, c.in-2.is, c.falls_due.ensures)

pub returns-in-3 : goal.returns-in-3
unfolding may_act
returns-in-3 c = rw (sym c.deactivates.ensures ∙ c.if-deactivates.false, c.in-3.is, c.eq.ensures, c.falls_due-in-3.ensures)

pub returns-in-4 : goal.returns-in-4
unfolding may_act
returns-in-4 c = rw (sym c.deactivates.ensures ∙ c.if-deactivates.false, c.in-4.is, c.falls_due-in-4.ensures)

pub returns-in_default : goal.returns-in_default
unfolding may_act
returns-in_default c = let r = c.in_default.in_default-own.rest in rw (sym c.deactivates.ensures ∙ c.if-deactivates.false) (simp (ne_eqb _ _ r.0.0.0.0.1, ne_eqb _ _ r.0.0.0.1, ne_eqb _ _ r.0.0.1, ne_eqb _ _ r.0.1, ne_eqb _ _ r.1))
