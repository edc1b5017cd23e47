use Rattle.std.proofs.Common.{arith, refl, rules}
use Rattle.model_ports.specs.Ports.{frozen_none, frozen_next, frozen_all}
use Rattle.model_ports.proofs.ports.freeze.Goals as goal

pub loop-i-init : goal.loop-i-init
loop-i-init c = (refl, frozen_none _ _ _ _)

pub loop-i-preserved : goal.loop-i-preserved
loop-i-preserved c = (search rules, frozen_next _ _ _ _ _ c.fed_ports-marks.ensures _ _ (rw c.inputs.ensures at c.min-count.ensures) _ c.loop-i.invariant.1 _ _ _ _ c.loop-i-test.true c.input_owner.ensures c.from-owner.ensures c.takes.ensures c.take_buffer.ensures)

pub returns : goal.returns
returns c = frozen_all _ _ _ _ _ c.fed_ports-marks.ensures _ _ (rw c.inputs.ensures at c.min-count.ensures) _ c.loop-i.invariant.1 (omega arith) (omega arith)
