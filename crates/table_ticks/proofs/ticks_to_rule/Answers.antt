use Rattle.std.proofs.Common.{◌∙◌}
use Rattle.table_ticks.specs.Ticking.{request_never, none_left, rule_now, rule_not_now, rule_never, rule_first}
use Rattle.table_ticks.proofs.ticks_to_rule.Goals as goal

pub returns-then-kind-eq-REQUEST : goal.returns-then-kind-eq-REQUEST
returns-then-kind-eq-REQUEST c = request_never c.args.table.now _ _ c.args.next c.args.kind c.if-kind-eq-REQUEST.true

pub returns-then-limit-eq0 : goal.returns-then-limit-eq0
returns-then-limit-eq0 c = none_left c.args.table.now _ _ c.args.next c.args.kind c.if-limit-eq0.true

pub returns-then-is_enabled : goal.returns-then-is_enabled
returns-then-is_enabled c = rule_now c.args.table.now _ _ c.args.next c.args.kind c.if-kind-eq-REQUEST.false c.if-limit-eq1.true _ c.is_enabled.ensures c.if-is_enabled.true

pub returns-else-is_enabled : goal.returns-else-is_enabled
returns-else-is_enabled c = rule_not_now c.args.table.now _ _ c.args.next c.args.kind c.if-kind-eq-REQUEST.false c.if-limit-eq1.true _ c.is_enabled.ensures c.if-is_enabled.false

pub returns-then-not-all_pass : goal.returns-then-not-all_pass
returns-then-not-all_pass c = rule_never c.args.table.now _ _ c.args.next c.args.kind c.if-kind-eq-REQUEST.false _ c.all_pass.ensures c.if-not-all_pass.true

pub returns : goal.returns
returns c = c.ticks_to_enabled.ensures ∙ rule_first c.args.table.now _ _ c.args.next c.args.kind c.if-kind-eq-REQUEST.false
