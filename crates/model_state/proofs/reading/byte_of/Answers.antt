use Rattle.std.proofs.Common.{refl}
use Rattle.model_state.specs.Words.{byte_in}
use Rattle.model_state.proofs.reading.byte_of.Goals as goal

pub returns : goal.returns
unfolding byte_in
returns c = refl
