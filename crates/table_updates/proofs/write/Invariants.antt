use Rattle.table_updates.specs.Applied.{Writing}
use Rattle.table_updates.proofs.write.Given as goal

abbrev pub invariant-loop-one : goal.invariant-loop-one
invariant-loop-one l = Writing l.held l.initial.bits l.bits l.one-index
