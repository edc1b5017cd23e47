use Rattle.std.proofs.Common.{refl}
use Rattle.model_takes.specs.Rooms.{input_room_lem}
use Rattle.model_takes.proofs.InputTaken.add.Goals as goal

pub add_input-requires : goal.add_input-requires
add_input-requires c = (c.requires.whole_model, input_room_lem _ _ _ _ refl c.requires.passed.1 _ refl)
