use Rattle.std.proofs.Common.{◌≡◌, ◌-◌}
use Rattle.table_index.specs.Index.{rules_in}
use Rattle.table_ticks.specs.Ticking.{later}
use Rattle.table_semantics.specs.Runs.{values}
use Rattle.table_semantics.specs.Machine.{ticks}
use Rattle.table_semantics.specs.Runs.{variables_of}
use Rattle.table_ticks.proofs.tick.Given as goal

abbrev pub invariant-loop-tick : goal.invariant-loop-tick
invariant-loop-tick l = (values l.bits ≡ later l._tick (values l.initial.bits)) × (ticks (rules_in l.all.table.now l.all.words.now l.all.rest) (variables_of l.initial.bits) (l.n - l._tick) (later l._tick (values l.initial.bits)) ≡ ticks (rules_in l.all.table.now l.all.words.now l.all.rest) (variables_of l.initial.bits) l.n (values l.initial.bits))
