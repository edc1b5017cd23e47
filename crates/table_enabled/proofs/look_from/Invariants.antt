use Rattle.std.proofs.Common.{◌≡◌, ◌+◌, ◌≤◌}
use Rattle.records.specs.declared.Notation.TheVariants as notations
use Rattle.table_rules.specs.At.{rules_from}
use Rattle.table_semantics.specs.Runs.{values}
use Rattle.table_enabled.specs.Walk.{Going}
use Rattle.table_enabled.proofs.look_from.Given as goal

abbrev pub invariant-loop-part : goal.invariant-loop-part
invariant-loop-part l =
    let walk = l.part-iterator in
    (goal.iterator-loop-part).can_next walk × (goal.iterator-loop-part).is_finite walk × (walk.notation ≡ notations.Table) × (walk.input.now ≡ l.table)
    × (l.from ≤ walk.at) × (l.seen.count + l.from ≤ l.initial.seen.count + walk.at)
    × Going (values l.bits) (rules_from l.table l.from) (rules_from l.table walk.at) l.initial.seen l.initial.output l.seen l.output
