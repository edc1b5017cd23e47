use Rattle.std.proofs.Common.{◌≡◌, length}
use Rattle.table_rules.specs.Bits.{Same}
use Rattle.table_rules.proofs.variables_of.Given as goal

abbrev pub invariant-loop-j : goal.invariant-loop-j
invariant-loop-j l = (length l.value ≡ 288) × Same l.value l.bits l.j
