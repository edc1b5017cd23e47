use Rattle.std.proofs.Common.{refl, sym, ◌∙◌, arith}
use Rattle.table_index.specs.IndexLaws.{head_at}
use Rattle.table_ticks.specs.QuietListed.{stops_guarded, stops_no_head, stops_request, stops_now, stops_not_now, stops_none, stops_not_listed, stops_listed}
use Rattle.table_ticks.proofs.ticks_to_listed.Goals as goal

pub returns-then-not-may_hold : goal.returns-then-not-may_hold
returns-then-not-may_hold c = stops_guarded c.args.table.now _ _ c.args.word c.args.guard _ c.may_hold.ensures c.if-not-may_hold.true

pub returns-then-not-is_head : goal.returns-then-not-is_head
returns-then-not-is_head c = stops_no_head c.args.table.now _ _ c.args.word c.args.guard _ c.is_head.ensures c.if-not-is_head.true

pub overflow_add-kind : goal.overflow_add-kind
overflow_add-kind c = let h = (head_at c.args.table.now _ (sym c.is_head.ensures ∙ c.if-not-is_head.false)).within in record { fits = omega arith }

pub bounds-table-at : goal.bounds-table-at
bounds-table-at c = let h = (head_at c.args.table.now _ (sym c.is_head.ensures ∙ c.if-not-is_head.false)).within in omega arith

pub returns-then-kind-eq-REQUEST : goal.returns-then-kind-eq-REQUEST
returns-then-kind-eq-REQUEST c = stops_request c.args.table.now _ _ c.args.word c.args.guard (head_at c.args.table.now _ (sym c.is_head.ensures ∙ c.if-not-is_head.false)) _ refl c.if-kind-eq-REQUEST.true

pub returns-then-rest_holds : goal.returns-then-rest_holds
returns-then-rest_holds c = stops_now c.args.table.now _ _ c.args.word c.args.guard c.if-limit-eq1.true (head_at c.args.table.now _ (sym c.is_head.ensures ∙ c.if-not-is_head.false)) _ refl c.if-kind-eq-REQUEST.false _ c.may_hold.ensures c.if-not-may_hold.false _ c.rest_holds.ensures c.if-rest_holds.true

pub returns-else-rest_holds : goal.returns-else-rest_holds
returns-else-rest_holds c = stops_not_now c.args.table.now _ _ c.args.word c.args.guard c.if-limit-eq1.true (head_at c.args.table.now _ (sym c.is_head.ensures ∙ c.if-not-is_head.false)) _ refl c.if-kind-eq-REQUEST.false _ c.may_hold.ensures c.if-not-may_hold.false _ c.rest_holds.ensures c.if-rest_holds.false

pub overflow_add-at : goal.overflow_add-at
overflow_add-at c = let h = (head_at c.args.table.now _ (sym c.is_head.ensures ∙ c.if-not-is_head.false)).within in record { fits = omega arith }

pub returns-then-n-limit : goal.returns-then-n-limit
returns-then-n-limit c = stops_none c.args.table.now _ _ c.args.word c.args.guard (head_at c.args.table.now _ (sym c.is_head.ensures ∙ c.if-not-is_head.false)) _ refl _ c.ticks_to_rule-n.ensures c.if-n-limit.true

pub returns-then-not-is_listed : goal.returns-then-not-is_listed
returns-then-not-is_listed c = stops_not_listed c.args.table.now _ _ c.args.word c.args.guard _ c.is_listed.ensures c.if-not-is_listed.true

pub returns : goal.returns
returns c = stops_listed c.args.table.now _ _ c.args.word c.args.guard _ c.is_listed.ensures c.if-not-is_listed.false _ refl _ c.ticks_to_rule-n.ensures
