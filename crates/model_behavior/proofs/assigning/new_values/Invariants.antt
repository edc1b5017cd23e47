use Rattle.std.proofs.Common.{◌≡◌, length}
use Rattle.model_state.specs.Words.{state_in}
use Rattle.model_words.specs.Words.{behavior_in}
use Rattle.model_behavior.specs.AssignLaws.{NewValues}
use Rattle.model_behavior.proofs.assigning.new_values.Given as goal

abbrev pub invariant-loop-j : goal.invariant-loop-j
invariant-loop-j l = NewValues (behavior_in l.model) (state_in l.state).ports l.k l.j l.values × (length l.values ≡ length l.initial.values)
