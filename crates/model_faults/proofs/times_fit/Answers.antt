use Rattle.std.proofs.Common.{refl}
use Rattle.model_format.specs.Reading as reading
use Rattle.model_faults.proofs.times_fit.Goals as goal

pub returns : goal.returns
unfolding reading.times_fit
returns c = refl
