use Rattle.std.proofs.Common.{refl}
use Rattle.model_takes.specs.Rooms.{transition_room}
use Rattle.model_takes.proofs.TransitionTaken.add.Goals as goal

pub add_transition-requires : goal.add_transition-requires
add_transition-requires c = (c.requires.whole_model, transition_room _ _ _ _ refl c.requires.passed.1 _ refl)
