use native.Mathlib.Omega.{arith}
use borrow.Author.Rules.{rules}
use Rattle.records.specs.declared.Notation.TheVariants.{Script}
use Rattle.records.specs.Walk.{next_place, listed_past, listed_within}
use Rattle.records.proofs.event_at.Goals as goal

pub returns-then-script-at : goal.returns-then-script-at
returns-then-script-at c = listed_past c.args.script.now _ c.if-script-at.true

pub overflow_add-end : goal.overflow_add-end
overflow_add-end c = let z = next_place Script _ _ _ c.if-script-at.false c.part_length_at.ensures in search rules

pub slice_bounds-event_of-end : goal.slice_bounds-event_of-end
slice_bounds-event_of-end c = let z = next_place Script _ _ _ c.if-script-at.false c.part_length_at.ensures in omega arith

pub returns : goal.returns
returns c = listed_within c.args.script.now _ _ _ c.part_length_at.ensures c.event_of-event.ensures
