use Rattle.std.proofs.Common.{◌∙◌}
use Rattle.model_format.specs.Model.{max_threads}
use Rattle.model_semantics.specs.State as semantics
use Rattle.model_state.specs.Words as words
use Rattle.model_state.specs.Sections.{section_number}
use Rattle.model_state.proofs.reading.behavior_of.Goals as goal

pub returns : goal.returns
unfolding words.state_in words.threads_in words.byte_in semantics.behavior_of
returns c = c.byte_of.ensures ∙ section_number words.byte_in words.behavior_base max_threads _ _ _ c.number_at.ensures
