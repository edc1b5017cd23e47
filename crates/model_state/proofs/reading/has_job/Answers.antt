use Rattle.std.proofs.Common.{refl}
use Rattle.model_semantics.specs.Tests.{is_unfinished, has_job}
use Rattle.model_state.proofs.reading.has_job.Goals as goal

pub returns : goal.returns
unfolding has_job is_unfinished
returns c = refl
