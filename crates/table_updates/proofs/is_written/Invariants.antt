use Rattle.std.proofs.Common.{◌≡◌}
use Rattle.records.specs.declared.Notation.TheVariants as notations
use Rattle.table_semantics.specs.Runs.{values}
use Rattle.table_updates.specs.Applied.{Looking}
use Rattle.table_updates.proofs.is_written.Given as goal

abbrev pub invariant-loop-part : goal.invariant-loop-part
invariant-loop-part l =
    let walk = l.part-iterator in
    (goal.iterator-loop-part).can_next walk × (goal.iterator-loop-part).is_finite walk × (walk.notation ≡ notations.Table) × (walk.input.now ≡ l.table)
    × Looking (values l.bits) l.table l.from l.target walk.at
