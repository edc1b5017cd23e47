use Rattle.std.proofs.Common.{sym, rules, length-take-le}
use Rattle.listing_rules.specs.Rules.{lists_run, lists_refusal}
use Rattle.translator.specs.Tables.{bytes_within}
use Rattle.listing_rules.proofs.rules_listing.Goals as goal

pub slice_bounds-table-end : goal.slice_bounds-table-end
slice_bounds-table-end c = bytes_within _ _ _ c.translate-translation.result _ c.translate-translation.ensures c.is_none.ensures c.if-is_none.true (search rules)

pub slice_bounds-table_listing-end : goal.slice_bounds-table_listing-end
slice_bounds-table_listing-end c = sym (length-take-le _ _ (bytes_within _ _ _ c.translate-translation.result _ c.translate-translation.ensures c.is_none.ensures c.if-is_none.true (search rules)))

pub returns-then-is_none : goal.returns-then-is_none
returns-then-is_none c = lists_run _ _ _ c.translate-translation.result _ c.table_room-table.ensures c.translate-translation.ensures c.is_none.ensures _ c.if-is_none.true c.table_listing.ensures

pub returns : goal.returns
returns c = lists_refusal _ _ _ c.translate-translation.result _ c.table_room-table.ensures c.translate-translation.ensures c.is_none.ensures _ c.if-is_none.false c.put_end.ensures
