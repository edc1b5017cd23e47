use Rattle.std.proofs.Common.{refl}
use Rattle.model_takes.specs.Rooms.{assignment_room}
use Rattle.model_takes.proofs.AssignmentTaken.add.Goals as goal

pub add_assignment-requires : goal.add_assignment-requires
add_assignment-requires c = record { whole_model = c.requires.whole_model; room_left = assignment_room _ _ _ _ refl c.requires.passed.1 _ refl }
