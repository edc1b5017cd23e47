use Rattle.std.proofs.Common.{◌≡◌, length}
use Rattle.table_rules.specs.Bits.{Same}
use Rattle.table_rules.proofs.all_bits.Given as goal

abbrev pub invariant-loop-j : goal.invariant-loop-j
invariant-loop-j l = (length l.bits ≡ 288) × Same l.s.value l.bits l.j
