use Rattle.std.proofs.Common.{◌≡◌, drop}
use Rattle.records.specs.declared.Notation.TheVariants as notations
use Rattle.table_format.specs.Format.{records}
use Rattle.table_format.specs.Table.{gather, table_of}
use Rattle.table_semantics.specs.Runs.{values}
use Rattle.table_semantics.specs.Machine.{begun, start_variables}
use Rattle.table_semantics.specs.declared.Variables.{Variables}
use Rattle.table_machine.proofs.start_variables.Given as goal

abbrev pub invariant-loop-part : goal.invariant-loop-part
invariant-loop-part l =
    let walk = l.part-iterator in
    (goal.iterator-loop-part).can_next walk × (goal.iterator-loop-part).is_finite walk × (walk.notation ≡ notations.Table) × (walk.input.now ≡ l.table)
    × (◌≡◌ {A = Variables} (record { value = begun (gather (records (drop walk.at l.table))).initial (values l.bits) }) (start_variables (table_of l.table)))
