use Rattle.std.proofs.Common.{refl}
use Rattle.model_takes.specs.Rooms.{connection_room_lem}
use Rattle.model_takes.proofs.ConnectionTaken.add.Goals as goal

pub add_connection-requires : goal.add_connection-requires
add_connection-requires c = (c.requires.whole_model, connection_room_lem _ _ _ _ refl c.requires.passed.1 _ refl)
