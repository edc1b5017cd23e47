use Rattle.std.proofs.Common.{◌≡◌, drop}
use Rattle.records.specs.Format.{parts}
use Rattle.records.specs.declared.Notation.TheVariants as notations
use Rattle.table_format.specs.Reading.{read_from, read_table}
use Rattle.table_faults.proofs.read_table.Given as goal

abbrev pub invariant-loop-part : goal.invariant-loop-part
invariant-loop-part l =
    let walk = l.part-iterator in
    (goal.iterator-loop-part).can_next walk × (goal.iterator-loop-part).is_finite walk × (walk.notation ≡ notations.Table) × (walk.input.now ≡ l.table)
    × (read_from l.context walk.at (parts notations.Table (drop walk.at l.table)) ≡ read_table l.table)
