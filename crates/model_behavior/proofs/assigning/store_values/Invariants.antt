use Rattle.std.proofs.Common.{◌≡◌, length}
use Rattle.model_state.specs.Words.{state_in}
use Rattle.model_words.specs.Words.{behavior_in}
use Rattle.model_behavior.specs.AssignLaws.{assigned}
use Rattle.model_behavior.proofs.assigning.store_values.Given as goal

abbrev pub invariant-loop-j : goal.invariant-loop-j
invariant-loop-j l = (state_in l.state ≡ assigned (behavior_in l.model) (state_in l.initial.state) l.k l.j) × (length l.state ≡ length l.initial.state)
