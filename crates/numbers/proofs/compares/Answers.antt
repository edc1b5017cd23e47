use Rattle.std.proofs.Common.{◌∙◌, ap, not, rules}
use borrow.Author.Tests.{ne_eqb}
use Rattle.numbers.specs.Values as values
use Rattle.numbers.specs.ValueLaws.{same_by_eq, less_by_lt, not_less_by_ge}
use Rattle.numbers.proofs.compares.Goals as goal

pub returns-in-0 : goal.returns-in-0
unfolding values.compares
returns-in-0 c = rw c.in-0.is (c.eq.ensures ∙ same_by_eq c.args.a c.args.b (search rules) (search rules))

pub returns-in-1 : goal.returns-in-1
unfolding values.compares
returns-in-1 c = rw c.in-1.is (c.ne.ensures ∙ ap not (same_by_eq c.args.a c.args.b (search rules) (search rules)))

pub returns-in-2 : goal.returns-in-2
unfolding values.compares
returns-in-2 c = rw c.in-2.is (c.lt.ensures ∙ less_by_lt c.args.a c.args.b)

pub returns-in-3 : goal.returns-in-3
unfolding values.compares
returns-in-3 c = rw c.in-3.is (c.ge.ensures ∙ not_less_by_ge c.args.a c.args.b)

pub returns-in-4 : goal.returns-in-4
unfolding values.compares
returns-in-4 c = rw c.in-4.is (c.lt-in-4.ensures ∙ less_by_lt c.args.b c.args.a)

pub returns-in_default : goal.returns-in_default
unfolding values.compares
returns-in_default c = let r = c.in_default.in_default-own.rest in
    simp (ne_eqb _ _ r.0.0.0.0.1, ne_eqb _ _ r.0.0.0.1, ne_eqb _ _ r.0.0.1, ne_eqb _ _ r.0.1, ne_eqb _ _ r.1) (c.ge-in_default.ensures ∙ not_less_by_ge c.args.b c.args.a)
