use Rattle.std.proofs.Common.{◌≡◌}
use Rattle.records.specs.declared.Notation.TheVariants as notations
use Rattle.table_semantics.specs.Runs.{values}
use Rattle.table_ticks.specs.Ticking.{quiet_from}
use Rattle.table_ticks.proofs.quiet_from.Given as goal

abbrev pub invariant-loop-part : goal.invariant-loop-part
invariant-loop-part l =
    let walk = l.part-iterator in
    (goal.iterator-loop-part).can_next walk × (goal.iterator-loop-part).is_finite walk × (walk.notation ≡ notations.Table) × (walk.input.now ≡ l.table)
    × (quiet_from l.table (values l.bits) l.limit walk.at ≡ quiet_from l.table (values l.bits) l.n l.from)
