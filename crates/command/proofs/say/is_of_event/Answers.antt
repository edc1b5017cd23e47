use Rattle.std.proofs.Common.{refl}
use Rattle.records.specs.Refusals.{number_of}
use Rattle.command.specs.Shows.{is_of_event}
use Rattle.command.proofs.say.is_of_event.Goals as goal

pub returns : goal.returns
unfolding is_of_event number_of
returns c = refl
