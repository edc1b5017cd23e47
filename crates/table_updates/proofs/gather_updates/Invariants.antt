use Rattle.std.proofs.Common.{◌≡◌, length}
use Rattle.records.specs.declared.Notation.TheVariants as notations
use Rattle.table_semantics.specs.Runs.{values}
use Rattle.table_updates.specs.Applied.{Gathering, writes_from}
use Rattle.table_updates.proofs.gather_updates.Given as goal

abbrev pub invariant-loop-part : goal.invariant-loop-part
invariant-loop-part l =
    let walk = l.part-iterator in
    (goal.iterator-loop-part).can_next walk × (goal.iterator-loop-part).is_finite walk × (walk.notation ≡ notations.Table) × (walk.input.now ≡ l.table)
    × Gathering (writes_from l.n (values l.bits) l.table l.from) (values l.bits) (writes_from l.n (values l.bits) l.table walk.at) l.count l.held l.marks (length l.initial.held)
