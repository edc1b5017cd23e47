use Rattle.std.proofs.Common.{◌≡◌, ◌-◌, true, length, drop}
use Rattle.table_format.specs.Format.{records}
use Rattle.table_semantics.specs.Runs.{values}
use Rattle.table_rules.specs.Clauses.{pass_from}
use Rattle.table_rules.proofs.all_pass.Given as goal

abbrev pub invariant-loop-at : goal.invariant-loop-at
invariant-loop-at l = pass_from l.free (values l.bits) l.held (records (drop l.at l.table)) ≡ pass_from l.free (values l.bits) true (records (drop l.from l.table))

abbrev pub decreases-loop-at : goal.decreases-loop-at
decreases-loop-at l = length l.table - l.at
