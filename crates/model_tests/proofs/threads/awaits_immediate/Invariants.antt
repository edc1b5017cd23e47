use Rattle.std.proofs.Common.{◌≡◌, false, ℕ, ◌<◌}
use Rattle.model_state.specs.Words.{state_in}
use Rattle.model_words.specs.Words.{timing_in}
use Rattle.model_tests.specs.Jobs.{holds_start}
use Rattle.model_tests.proofs.threads.awaits_immediate.Given as goal

abbrev pub invariant-loop-c : goal.invariant-loop-c
invariant-loop-c l = (k : ℕ) → k < l.c → holds_start (timing_in l.model) (state_in l.state) l.t k ≡ false
