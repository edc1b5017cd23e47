use Rattle.model_state.specs.TimeLaws.{Reading}
use Rattle.model_state.proofs.time.spent_words.Given as goal

abbrev pub invariant-loop-thread : goal.invariant-loop-thread
invariant-loop-thread l = Reading l.state l.kept l.thread
