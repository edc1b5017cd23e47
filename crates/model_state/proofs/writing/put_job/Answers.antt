use Rattle.model_state.specs.StateLaws.{put_job}
use Rattle.model_state.proofs.writing.put_job.Goals as goal

pub returns : goal.returns
returns c = put_job _ _ _ _ _ c.put_length.ensures c.put_spent.ensures.0
