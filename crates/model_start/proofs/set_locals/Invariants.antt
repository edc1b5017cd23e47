use Rattle.std.proofs.Common.{◌≡◌, length}
use Rattle.model_state.specs.Words.{state_in}
use Rattle.model_words.specs.Words.{timing_in}
use Rattle.model_start.specs.Starting.{locals_below}
use Rattle.model_start.proofs.set_locals.Given as goal

abbrev pub invariant-loop-v : goal.invariant-loop-v
invariant-loop-v l = (length l.state ≡ length l.initial.state) × (state_in l.state ≡ locals_below (timing_in l.model) (state_in l.initial.state) l.v)
