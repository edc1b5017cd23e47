use Rattle.std.proofs.Common.{◌∙◌, arith}
use Rattle.records.specs.Walk.{slice_part}
use Rattle.table_search.specs.FindListed.{found_guarded, found_not_enabled, found_head, found_not_asked, found_listed_lem}
use Rattle.table_search.proofs.found_listed.Goals as goal

pub returns-then-not-may_hold : goal.returns-then-not-may_hold
returns-then-not-may_hold c = found_guarded c.args.table.now _ c.args.event c.args.found c.args.word c.args.guard _ c.may_hold.ensures c.if-not-may_hold.true

pub returns-then-not-rest_holds : goal.returns-then-not-rest_holds
returns-then-not-rest_holds c = found_not_enabled c.args.table.now _ c.args.event c.args.found c.args.word c.args.guard _ c.may_hold.ensures c.if-not-may_hold.false _ c.rest_holds.ensures c.if-not-rest_holds.true

pub slice_bounds-head_of-end : goal.slice_bounds-head_of-end
slice_bounds-head_of-end c = let h = (found_head c.args.table.now _ c.args.event c.args.found c.args.word c.args.guard _ c.may_hold.ensures c.if-not-may_hold.false _ c.rest_holds.ensures c.if-not-rest_holds.false).within in omega arith

pub returns-then-not-is_asked : goal.returns-then-not-is_asked
returns-then-not-is_asked c = found_not_asked c.args.table.now _ c.args.event c.args.found c.args.word c.args.guard _ c.may_hold.ensures c.if-not-may_hold.false _ c.rest_holds.ensures c.if-not-rest_holds.false _ (rw slice_part at c.head_of-head.ensures) _ c.is_asked.ensures c.if-not-is_asked.true

pub returns : goal.returns
returns c = c.found_one_more.ensures ∙ found_listed_lem c.args.table.now _ c.args.event c.args.found c.args.word c.args.guard _ c.may_hold.ensures c.if-not-may_hold.false _ c.rest_holds.ensures c.if-not-rest_holds.false _ (rw slice_part at c.head_of-head.ensures) _ c.is_asked.ensures c.if-not-is_asked.false
