use Rattle.model_state.specs.TimeLaws.{PutBack}
use Rattle.model_state.proofs.time.put_spent_words.Given as goal

abbrev pub invariant-loop-thread : goal.invariant-loop-thread
invariant-loop-thread l = PutBack l.initial.state l.state l.kept l.thread
