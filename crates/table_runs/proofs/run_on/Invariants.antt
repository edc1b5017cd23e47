use Rattle.std.proofs.Common.{◌≡◌, length, drop, ◌+◌, ◌≤◌}
use Rattle.records.specs.Format.{parts}
use Rattle.records.specs.declared.Notation.TheVariants as notations
use Rattle.table_format.specs.Table.{table_of}
use Rattle.table_index.specs.Index.{rules_by}
use Rattle.records.specs.Run.{stages_from, tally_from}
use Rattle.table_semantics.specs.Machine.{machine_of, tally_table}
use Rattle.table_semantics.specs.Runs.{variables_of}
use Rattle.table_runs.proofs.run_on.Given as goal

abbrev pub invariant-loop-listed : goal.invariant-loop-listed
invariant-loop-listed l =
    let walk = l.listed-iterator in
    (goal.iterator-loop-listed).can_next walk × (goal.iterator-loop-listed).is_finite walk × (walk.script.now ≡ l.script) × (walk.at ≤ length l.script)
    × (l.taken + l.refused ≤ walk.at) × (rules_by l.table l.index ≡ (table_of l.table).rules)
    × (tally_from (variables_of l.bits) l.taken l.refused (stages_from (machine_of (table_of l.table).rules) (variables_of l.bits) walk.at (parts notations.Script (drop walk.at l.script))) ≡ tally_table l.table l.script)
