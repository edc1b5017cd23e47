use Rattle.std.proofs.Common.{rules}
use Rattle.model_writer.specs.Added.{atom_added, atom_room}
use Rattle.model_writer.proofs.add_atom.Goals as goal

pub overflow_add-old : goal.overflow_add-old
overflow_add-old c = let h = atom_room _ _ _ c.last_transition-number.ensures c.transition_at-old.ensures c.requires.room_left in search rules

pub returns : goal.returns
returns c = atom_added c.args.model.now _ _ _ _ _ _ c.last_transition-number.ensures c.transition_at-old.ensures c.place.ensures _ c.put_atom_count.ensures c.from.ensures c.put_atom.ensures
