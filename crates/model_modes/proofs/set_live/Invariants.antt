use Rattle.std.proofs.Common.{◌≡◌, length}
use Rattle.model_state.specs.Words.{state_in}
use Rattle.model_words.specs.Words.{timing_in}
use Rattle.model_modes.specs.Modes.{live_below}
use Rattle.model_modes.proofs.set_live.Given as goal

abbrev pub invariant-loop-c : goal.invariant-loop-c
invariant-loop-c l = (length l.state ≡ length l.initial.state) × (state_in l.state ≡ live_below (timing_in l.model) (state_in l.initial.state) l.old l.new l.c)
