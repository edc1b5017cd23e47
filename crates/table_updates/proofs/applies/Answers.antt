use Rattle.std.proofs.Common.{rules, ◌∙◌, arith}
use Rattle.table_semantics.proofs.RuleLaws.{applies_always, applies_where}
use Rattle.numbers.specs.ValueLaws.{same_by_eq}
use Rattle.table_updates.proofs.applies.Goals as goal

pub returns-then-condition : goal.returns-then-condition
returns-then-condition c = applies_always _ c.args.part.now _ c.u16_at-condition.ensures c.if-condition.true

pub returns : goal.returns
returns c = c.eq.ensures ∙ same_by_eq c.value_in.result c.value_of.result (search rules) (search rules) ∙ applies_where _ c.args.part.now _ c.u16_at-condition.ensures c.if-condition.false _ c.item_or-wanted.ensures (omega arith) _ _ c.value_in.ensures c.value_of.ensures
