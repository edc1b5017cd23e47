use Rattle.std.proofs.Common.{◌∙◌, ap}
use Rattle.state_settling.specs.Words.{words_of_state}
use Rattle.futonkestrel_states.proofs.start_settled.Goals as goal

pub returns : goal.returns
returns c = c.settle_state.ensures ∙ ap words_of_state c.start_in.ensures
