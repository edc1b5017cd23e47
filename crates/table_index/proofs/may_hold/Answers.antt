use Rattle.std.proofs.Common.{rules, refl, ◌∙◌}
use Rattle.numbers.specs.ValueLaws.{same_by_eq}
use Rattle.table_index.specs.Guards.{may_clock, may_none, may_by}
use Rattle.table_index.proofs.may_hold.Goals as goal

pub returns-then-j-eq0 : goal.returns-then-j-eq0
returns-then-j-eq0 c = may_clock _ c.args.guard _ refl c.if-j-eq0.true

pub returns-then-j-ge-VARIABLES : goal.returns-then-j-ge-VARIABLES
returns-then-j-ge-VARIABLES c = may_none _ c.args.guard _ refl c.if-j-eq0.false c.if-j-ge-VARIABLES.true

pub returns : goal.returns
returns c = c.eq.ensures ∙ same_by_eq c.value_in-value.result c.value_of.result (search rules) (search rules) ∙ may_by _ c.args.guard _ refl c.if-j-eq0.false c.if-j-ge-VARIABLES.false _ _ c.value_in-value.ensures c.value_of.ensures
