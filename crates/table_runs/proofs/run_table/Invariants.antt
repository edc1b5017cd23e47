use Rattle.std.proofs.Common.{◌≡◌, length, drop, ◌≤◌}
use Rattle.records.specs.Format.{parts}
use Rattle.records.specs.declared.Notation.TheVariants as notations
use Rattle.table_format.specs.Table.{table_of}
use Rattle.table_index.specs.Index.{rules_by}
use Rattle.records.specs.Run.{run_from}
use Rattle.table_semantics.specs.Machine.{machine_of, run_table}
use Rattle.table_semantics.specs.Runs.{variables_of}
use Rattle.table_runs.proofs.run_table.Given as goal

abbrev pub invariant-loop-at : goal.invariant-loop-at
invariant-loop-at l =
    let walk = l.at-iterator in
    (goal.iterator-loop-at).can_next walk × (goal.iterator-loop-at).is_finite walk × (walk.script.now ≡ l.script) × (walk.at ≤ length l.script)
    × (l.taken ≤ walk.at) × (rules_by l.table l.index ≡ (table_of l.table).rules)
    × (run_from (machine_of (table_of l.table).rules) (variables_of l.bits) l.taken walk.at (parts notations.Script (drop walk.at l.script)) ≡ run_table l.table l.script)
