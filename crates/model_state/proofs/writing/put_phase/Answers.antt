use Rattle.model_state.specs.StateLaws.{put_both}
use Rattle.model_state.proofs.writing.put_phase.Goals as goal

pub returns : goal.returns
returns c = put_both _ _ _ _ _ c.put_phase_alone.ensures c.put_pending.ensures
