use Rattle.model_state.specs.Words.{state_in}
use Rattle.model_words.specs.Words.{timing_in}
use Rattle.model_enabled.specs.Walks.{Looping}
use Rattle.model_enabled.specs.Counts.{event_at}
use Rattle.model_enabled.proofs.put_kind.Given as goal

abbrev pub invariant-loop-i : goal.invariant-loop-i
invariant-loop-i l = Looping (event_at (timing_in l.model) (state_in l.state) l.kind) l.initial.output l.n-2 l.output l.n l.i
