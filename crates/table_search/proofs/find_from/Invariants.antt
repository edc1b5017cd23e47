use Rattle.std.proofs.Common.{◌≡◌}
use Rattle.records.specs.declared.Notation.TheVariants as notations
use Rattle.table_semantics.specs.Runs.{values}
use Rattle.table_search.specs.Enabled.{Finds}
use Rattle.table_search.proofs.find_from.Given as goal

abbrev pub invariant-loop-part : goal.invariant-loop-part
invariant-loop-part l =
    let walk = l.part-iterator in
    (goal.iterator-loop-part).can_next walk × (goal.iterator-loop-part).is_finite walk × (walk.notation ≡ notations.Table) × (walk.input.now ≡ l.table)
    × (Finds l.table (values l.bits) l.event l.found walk.at ≡ Finds l.table (values l.bits) l.event l.initial.found l.from)
