use Rattle.std.proofs.Common.{◌≡◌, ◌+◌, ◌-◌, ◌≤◌, length}
use Rattle.table_format.specs.Format.{records}
use Rattle.table_reader.specs.Reading.{count_rules}
use Rattle.table_reader.specs.Walked.{left}
use Rattle.table_reader.proofs.count_rules.Given as goal

abbrev pub invariant-loop-at : goal.invariant-loop-at
invariant-loop-at l = (l.at ≤ length l.table) × (l.count ≤ l.at) × (l.count + count_rules (left l.table l.at) ≡ count_rules (records l.table))

abbrev pub decreases-loop-at : goal.decreases-loop-at
decreases-loop-at l = length l.table - l.at
