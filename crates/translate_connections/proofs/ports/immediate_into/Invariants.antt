use Rattle.std.proofs.Common.{◌≡◌, false, ℕ, ◌<◌}
use Rattle.model_words.specs.Words.{timing_in}
use Rattle.translation.specs.Rules.{feeds_at_once}
use Rattle.translate_connections.proofs.ports.immediate_into.Given as goal

abbrev pub invariant-loop-connection : goal.invariant-loop-connection
invariant-loop-connection l = (k : ℕ) → k < l.connection → feeds_at_once (timing_in l.model) l.port k ≡ false
