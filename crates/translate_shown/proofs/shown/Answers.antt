use Rattle.model_words.specs.Words.{timing_in}
use Rattle.model_state.specs.Words.{state_in}
use Rattle.translate_shown.specs.Blocks.{clock_shown, others_shown}
use Rattle.translate_shown.proofs.shown.Goals as goal

pub returns-then-variable-lt-CLOCK_VARIABLES : goal.returns-then-variable-lt-CLOCK_VARIABLES
returns-then-variable-lt-CLOCK_VARIABLES c = (clock_shown (timing_in c.args.model.now) (state_in c.args.state.now) _ _ c.clock_of.ensures c.if-variable-lt-CLOCK_VARIABLES.true c.of_clock.ensures c.count.ensures).bits

pub returns : goal.returns
returns c = (others_shown (timing_in c.args.model.now) (state_in c.args.state.now) _ c.if-variable-lt-CLOCK_VARIABLES.false c.of_thread.ensures).bits
