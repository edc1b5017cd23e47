use Rattle.std.proofs.Common.{false, ◌≡◌, ℕ, ◌<◌}
use Rattle.table_semantics.specs.Runs.{values}
use Rattle.table_semantics.specs.Rules.{all_hold}
use Rattle.table_rules.specs.At.{clauses_at}
use Rattle.table_ticks.specs.Ticking.{later}
use Rattle.table_ticks.proofs.advance_to_enabled.Given as goal

abbrev pub invariant-loop-i : goal.invariant-loop-i
invariant-loop-i l = (values l.bits ≡ later l.i (values l.initial.bits)) × ((k : ℕ) → k < l.i → all_hold (later k (values l.initial.bits)) (clauses_at l.table l.from) ≡ false)
