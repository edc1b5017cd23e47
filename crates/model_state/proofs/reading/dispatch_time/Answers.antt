use Rattle.model_format.specs.Model.{max_threads}
use Rattle.model_semantics.specs.State as semantics
use Rattle.model_state.specs.Words as words
use Rattle.model_state.specs.Sections.{section_number}
use Rattle.model_state.proofs.reading.dispatch_time.Goals as goal

pub returns : goal.returns
unfolding words.state_in words.threads_in semantics.dispatch_time
returns c = section_number words.duration_in words.dispatched_base max_threads _ _ _ c.number_at.ensures
