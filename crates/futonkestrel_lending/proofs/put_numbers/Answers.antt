use Rattle.std.proofs.Common.{arith}
use Rattle.futonkestrel_lending.specs.Laws.{lending_begins, lending_on, lending_ends}
use Rattle.futonkestrel_lending.proofs.put_numbers.Goals as goal

pub loop-j-init : goal.loop-j-init
loop-j-init g c = lending_begins _ _

pub loop-j-preserved : goal.loop-j-preserved
loop-j-preserved g c = lending_on c.loop-j.invariant c.loop-j-test.true c.of.ensures c.put_item.ensures

pub shape_of-lent : goal.shape_of-lent
shape_of-lent g c = c.loop-j.invariant.same

pub returns : goal.returns
returns g c = let h = c.loop-j-test.false in lending_ends c.loop-j.invariant (omega arith)
