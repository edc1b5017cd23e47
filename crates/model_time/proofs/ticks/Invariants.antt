use Rattle.std.proofs.Common.{◌≤◌, ◌≡◌}
use Rattle.model_state.specs.Words.{state_in}
use Rattle.model_words.specs.Words.{timing_in}
use Rattle.model_state.specs.Parts.{BesideTime}
use Rattle.model_semantics.specs.Machine.{ticks}
use Rattle.model_time.proofs.ticks.Given as goal

abbrev pub invariant-loop-left : goal.invariant-loop-left
invariant-loop-left l = (l.left ≤ l.n) × BesideTime l.initial.state l.state × (ticks (timing_in l.model) (state_in l.initial.state) l.left (state_in l.state) ≡ ticks (timing_in l.model) (state_in l.initial.state) l.n (state_in l.initial.state))

abbrev pub decreases-loop-left : goal.decreases-loop-left
decreases-loop-left l = l.left
