use Rattle.std.proofs.Common.{refl}
use Rattle.model_takes.specs.Rooms.{atom_room}
use Rattle.model_takes.proofs.AtomTaken.add.Goals as goal

pub add_atom-requires : goal.add_atom-requires
add_atom-requires c = record { whole_model = c.requires.whole_model; room_left = atom_room _ _ _ _ refl c.requires.passed.1 _ refl }
