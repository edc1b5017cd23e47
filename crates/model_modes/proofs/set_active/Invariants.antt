use Rattle.std.proofs.Common.{◌≡◌, length}
use Rattle.model_state.specs.Words.{state_in}
use Rattle.model_words.specs.Words.{timing_in}
use Rattle.model_modes.specs.Modes.{active_below}
use Rattle.model_modes.proofs.set_active.Given as goal

abbrev pub invariant-loop-t : goal.invariant-loop-t
invariant-loop-t l = (length l.state ≡ length l.initial.state) × (state_in l.state ≡ active_below (timing_in l.model) (state_in l.initial.state) l.mode l.t)
