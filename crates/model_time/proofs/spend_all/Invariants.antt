use Rattle.std.proofs.Common.{◌≡◌}
use Rattle.model_state.specs.Words.{state_in}
use Rattle.model_state.specs.Parts.{BesideTime}
use Rattle.model_time.specs.Passing.{spent_below}
use Rattle.model_time.proofs.spend_all.Given as goal

abbrev pub invariant-loop-t : goal.invariant-loop-t
invariant-loop-t l = (state_in l.state ≡ spent_below (state_in l.initial.state) l.q l.t) × BesideTime l.initial.state l.state
