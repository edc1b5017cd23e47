use Rattle.std.proofs.Common.{◌≡◌}
use Rattle.records.specs.declared.Notation.TheVariants as notations
use Rattle.table_index.specs.IndexLaws.{Listing}
use Rattle.table_index.proofs.list_rules.Given as goal

abbrev pub invariant-loop-part : goal.invariant-loop-part
invariant-loop-part l =
    let walk = l.part-iterator in
    (goal.iterator-loop-part).can_next walk × (goal.iterator-loop-part).is_finite walk × (walk.notation ≡ notations.Table) × (walk.input.now ≡ l.table)
    × Listing l.table l.initial.index l.room l.index l.rules walk.at l.rest
