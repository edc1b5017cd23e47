use Rattle.std.proofs.Common.{rules, not, ◌∙◌, ap}
use Rattle.numbers.specs.ValueLaws.{same_by_eq}
use Rattle.table_semantics.proofs.RuleLaws.{holds_same, holds_compares, holds_multiple, holds_not_multiple}
use Rattle.table_rules.proofs.holds_op.Goals as goal

pub returns-then-op-eq-EQUALS : goal.returns-then-op-eq-EQUALS
returns-then-op-eq-EQUALS c = c.eq.ensures ∙ same_by_eq c.args.x c.args.y (search rules) (search rules) ∙ holds_same _ _ _ c.if-op-eq-EQUALS.true

pub returns-then-op-lt-MULTIPLE_OF : goal.returns-then-op-lt-MULTIPLE_OF
returns-then-op-lt-MULTIPLE_OF c = c.compares.ensures ∙ holds_compares _ _ _ c.if-op-lt-MULTIPLE_OF.true

pub returns-then-op-eq-MULTIPLE_OF : goal.returns-then-op-eq-MULTIPLE_OF
returns-then-op-eq-MULTIPLE_OF c = c.is_multiple-is_multiple.ensures ∙ holds_multiple _ _ _ c.if-op-lt-MULTIPLE_OF.false _ _ c.magnitude.ensures c.bits.ensures c.if-op-eq-MULTIPLE_OF.true

pub returns-else-op-eq-MULTIPLE_OF : goal.returns-else-op-eq-MULTIPLE_OF
returns-else-op-eq-MULTIPLE_OF c = ap not c.is_multiple-is_multiple.ensures ∙ holds_not_multiple _ _ _ c.if-op-lt-MULTIPLE_OF.false _ _ c.magnitude.ensures c.bits.ensures c.if-op-eq-MULTIPLE_OF.false
