use Rattle.std.proofs.Common.{◌∙◌}
use Rattle.model_format.specs.Model.{max_inputs}
use Rattle.model_semantics.specs.State as semantics
use Rattle.model_state.specs.Words as words
use Rattle.model_state.specs.Sections.{section_number}
use Rattle.model_state.proofs.reading.buffer_value.Goals as goal

pub returns : goal.returns
unfolding words.state_in words.ports_in words.value_in semantics.buffer_value
returns c = c.value_of.ensures ∙ section_number words.value_in words.buffer_base max_inputs _ _ _ c.number_at.ensures
