use Rattle.std.proofs.Common.{refl}
use Rattle.model_takes.specs.Rooms.{local_room_lem}
use Rattle.model_takes.proofs.LocalTaken.add.Goals as goal

pub add_local-requires : goal.add_local-requires
add_local-requires c = (c.requires.whole_model, local_room_lem _ _ _ _ refl c.requires.passed.1 _ refl)
