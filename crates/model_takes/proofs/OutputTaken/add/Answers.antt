use Rattle.std.proofs.Common.{refl}
use Rattle.model_takes.specs.Rooms.{output_room_lem}
use Rattle.model_takes.proofs.OutputTaken.add.Goals as goal

pub add_output-requires : goal.add_output-requires
add_output-requires c = (c.requires.whole_model, output_room_lem _ _ _ _ refl c.requires.passed.1 _ refl)
