use Rattle.model_state.specs.Words.{state_in}
use Rattle.model_words.specs.Words.{timing_in}
use Rattle.model_enabled.specs.Walks.{Looping}
use Rattle.model_enabled.specs.Counts.{kind_at}
use Rattle.model_enabled.proofs.put_events.Given as goal

abbrev pub invariant-loop-k : goal.invariant-loop-k
invariant-loop-k l = Looping (kind_at (timing_in l.model) (state_in l.state)) l.initial.output 0 l.output l.n l.k
