use Rattle.model_effects.specs.Events.{miss_is}
use Rattle.model_effects.proofs.miss.Goals as goal

pub returns : goal.returns
returns c = λ m. miss_is m _ _ _ _ _ _ _ c.missed_of.ensures c.one_more-missed.ensures c.rest_code-code.ensures (c.end_job.ensures m) c.put_missed.ensures
