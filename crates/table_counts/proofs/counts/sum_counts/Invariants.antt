use Rattle.table_counts.specs.Loops.{Adding}
use Rattle.table_counts.proofs.counts.sum_counts.Given as goal

abbrev pub invariant-loop-i : goal.invariant-loop-i
invariant-loop-i g l = Adding (goal.F-post g l.of) l.n l.i l.sum
