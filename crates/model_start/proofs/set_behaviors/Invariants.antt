use Rattle.std.proofs.Common.{◌≡◌, length}
use Rattle.model_state.specs.Words.{state_in}
use Rattle.model_words.specs.Words.{timing_in}
use Rattle.model_start.specs.Starting.{behaviors_below}
use Rattle.model_start.proofs.set_behaviors.Given as goal

abbrev pub invariant-loop-t : goal.invariant-loop-t
invariant-loop-t l = (length l.state ≡ length l.initial.state) × (state_in l.state ≡ behaviors_below (timing_in l.model) (state_in l.initial.state) l.t)
