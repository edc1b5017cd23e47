use Rattle.std.proofs.Common.{arith}
use Rattle.table_reader.specs.Steps.{step_place}
use Rattle.test_forms.proofs.walk.Goals as goal

pub loop-at-smaller : goal.loop-at-smaller
loop-at-smaller c = let p = step_place c.args.table.now _ _ c.loop-at-test.true c.step_at-step.ensures in omega arith

pub loop-at-preserved : goal.loop-at-preserved
loop-at-preserved c = (step_place c.args.table.now _ _ c.loop-at-test.true c.step_at-step.ensures).1
