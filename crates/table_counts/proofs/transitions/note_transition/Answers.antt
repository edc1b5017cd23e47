use Rattle.table_counts.specs.Noted.{noted_few, noted_next}
use Rattle.std.proofs.Common.{rules}
use Rattle.table_counts.proofs.transitions.note_transition.Goals as goal

pub overflow_add-seen : goal.overflow_add-seen
overflow_add-seen c = let few = (noted_few _ c.requires.0 _ c.requires.1.0 c.transition_at-transition.ensures c.requires.1.1 c.place_of-place.ensures).0 in
    let e = c.item_or-seen.ensures in
    search rules

pub overflow_add-atoms : goal.overflow_add-atoms
overflow_add-atoms c = let few = (noted_few _ c.requires.0 _ c.requires.1.0 c.transition_at-transition.ensures c.requires.1.1 c.place_of-place.ensures).1 in
    let e = c.item_or-atoms.ensures in
    search rules

pub returns : goal.returns
returns c = noted_next _ c.requires.0 _ c.requires.1.0 c.transition_at-transition.ensures c.requires.1.1 c.place_of-place.ensures c.item_or-seen.ensures c.item_or-atoms.ensures c.put_item.ensures c.put_item-2.ensures
