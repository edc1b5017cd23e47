use Rattle.table_updates.specs.Applied.{writing_on, writing_end}
use Rattle.table_updates.proofs.write.Goals as goal

pub loop-one-preserved : goal.loop-one-preserved
loop-one-preserved c = writing_on c.args.held.now _ _ _ (record { target = 0; bits = 0 }) c.loop-one.invariant c.loop-one-test.true _ c.put.ensures

pub shape_of-bits : goal.shape_of-bits
shape_of-bits c = c.loop-one.invariant.size

pub returns : goal.returns
returns c = writing_end c.args.held.now _ _ _ c.loop-one-test.false c.loop-one.invariant
