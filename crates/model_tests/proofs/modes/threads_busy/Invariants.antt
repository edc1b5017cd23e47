use Rattle.std.proofs.Common.{◌≡◌, false, ℕ, ◌<◌}
use Rattle.model_state.specs.Words.{state_in}
use Rattle.model_words.specs.Words.{timing_in}
use Rattle.model_semantics.specs.Tests.{thread_busy}
use Rattle.model_tests.proofs.modes.threads_busy.Given as goal

abbrev pub invariant-loop-t : goal.invariant-loop-t
invariant-loop-t l = (i : ℕ) → i < l.t → thread_busy (timing_in l.model) (state_in l.state) i ≡ false
