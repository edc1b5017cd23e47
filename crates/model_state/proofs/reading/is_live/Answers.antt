use Rattle.model_format.specs.Model.{max_connections}
use Rattle.model_semantics.specs.State as semantics
use Rattle.model_state.specs.Words as words
use Rattle.model_state.specs.Sections.{section_number}
use Rattle.model_state.proofs.reading.is_live.Goals as goal

pub returns : goal.returns
unfolding words.state_in words.mark_in semantics.is_live
returns c = section_number words.mark_in words.live_base max_connections _ _ _ c.number_at.ensures
