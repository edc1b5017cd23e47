use Rattle.table_counts.specs.Noted.{transition_told}
use Rattle.table_counts.proofs.transitions.transition_counts.Goals as goal

pub returns : goal.returns
returns c = transition_told _ c.requires.0 _ c.requires.1.0 c.transition_at-transition.ensures c.requires.1.1.0 c.requires.1.1.1 c.place_of-place.ensures c.from.ensures (c.item_or-earlier.ensures) (c.item_or-earlier_atoms.ensures) (c.item_or-sends.ensures) c.from-atoms.ensures c.from-assignments.ensures c.count.ensures
