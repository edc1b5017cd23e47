-- One event of the table by its kind: what the machine does, in one equation.
use Rattle.std.specs.Prelude.{◌≡◌, true, false, List, ℕ, eqb}
use Rattle.records.specs.declared.Event.{Event}
use Rattle.records.specs.declared.Cause.TheVariants.{BrokenEvent}
use Rattle.records.specs.Events.{tick_kind, is_broken}
use Rattle.table_format.specs.Table.{Rule}
use Rattle.table_semantics.specs.declared.Variables.{Variables}
use Rattle.table_semantics.specs.Rules.{enabled_rules}
use Rattle.table_semantics.specs.Machine as table-machine

module _ (rules : List Rule) (v : Variables) (e : Event) where
  pub table_broken : is_broken e ≡ true → table-machine.step rules v e ≡ table-machine.refuse BrokenEvent v
  unfolding table-machine.step
  table_broken b = rw b

  pub table_fires : (k : ℕ) → e.kind ≡ k → is_broken e ≡ false → eqb k tick_kind ≡ false → table-machine.step rules v e ≡ table-machine.fire v e (enabled_rules v.value k e.id rules)
  unfolding table-machine.step
  table_fires k f b n = rw (b, f, n)

  pub table_ticks : e.kind ≡ tick_kind → is_broken e ≡ false → table-machine.step rules v e ≡ table-machine.ticks rules v e.amount v.value
  unfolding table-machine.step
  table_ticks k b = rw (b, k)
