use Rattle.std.proofs.Common.{◌≤◌}
use Rattle.model_state.specs.Words.{state_in}
use Rattle.model_words.specs.Words.{timing_in}
use Rattle.model_time.specs.Quiet.{CalmBelow}
use Rattle.model_time.proofs.quiet.all_calm.Given as goal

abbrev pub invariant-loop-t : goal.invariant-loop-t
invariant-loop-t l = (l.calm ≤ l.n) × CalmBelow (timing_in l.model) l.clock (state_in l.state).threads l.t l.calm
