use Rattle.table_counts.specs.Loops.{adding_begins, adding_next}
use Rattle.table_counts.proofs.counts.sum_counts.Goals as goal

pub loop-i-init : goal.loop-i-init
loop-i-init g c = adding_begins _ _ c.nothing-sum.ensures

pub loop-i-preserved : goal.loop-i-preserved
loop-i-preserved g c = adding_next _ _ c.loop-i.invariant c.loop-i-test.true (c.requires.small _ _ c.loop-i-test.true c.of.ensures) c.of.ensures c.add-sum.ensures
