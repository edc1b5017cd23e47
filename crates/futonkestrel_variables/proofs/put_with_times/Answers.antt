use Rattle.std.proofs.Common.{rules}
use Rattle.model_words.specs.Words.{timing_in}
use Rattle.model_state.specs.Words.{state_in}
use Rattle.futonkestrel_variables.specs.Shown.{shown_with_times}
use Rattle.futonkestrel_variables.proofs.put_with_times.Goals as goal

pub returns : goal.returns
returns c = c.put_numbers.ensures (shown_with_times (timing_in c.args.model.now) (state_in c.args.state.now)) (λ j n h k. search rules)
