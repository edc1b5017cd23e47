use Rattle.std.proofs.Common.{sym}
use Rattle.model_format.specs.Format as format
use Rattle.model_format.specs.Reading as reading
use Rattle.model_causes.proofs.cause_of_atom.Goals as goal

pub atom_fits-requires : goal.atom_fits-requires
atom_fits-requires c = rw (← c.last_transition.ensures) c.transition_at-open.ensures

pub returns-then-atom_fits : goal.returns-then-atom_fits
returns-then-atom_fits c = sym (c.atom_fits.ensures c.if-atom_fits.true)

pub returns : goal.returns
unfolding reading.cause_of reading.names_item format.rank_of
returns c = rw (c.atom_cause.ensures, c.stand_of.ensures, c.operand_owned-right.ensures, c.is_owned_by-left.ensures, c.from.ensures, c.transition_at-open.ensures, c.last_transition.ensures, c.in_order-order.ensures)
