use Rattle.std.proofs.Common.{refl}
use Rattle.model_takes.specs.Rooms.{thread_room_lem}
use Rattle.model_takes.proofs.ThreadTaken.add.Goals as goal

pub add_thread-requires : goal.add_thread-requires
add_thread-requires c = (c.requires.whole_model, thread_room_lem _ _ _ _ refl c.requires.passed.1 _ refl)
