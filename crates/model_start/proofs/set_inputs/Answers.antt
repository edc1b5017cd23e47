use Rattle.std.proofs.Common.{arith, refl, rules}
use Rattle.model_start.specs.Starting.{inputs_none, inputs_next, inputs_all}
use Rattle.model_start.proofs.set_inputs.Goals as goal

pub loop-i-init : goal.loop-i-init
loop-i-init c = (refl, inputs_none _ _)

pub loop-i-preserved : goal.loop-i-preserved
loop-i-preserved c = (search rules, inputs_next _ _ _ _ _ _ _ c.loop-i.invariant.1 c.input_at-input.ensures c.put_input.ensures c.put_buffer.ensures)

pub returns : goal.returns
returns c = inputs_all _ _ _ _ _ (rw c.inputs.ensures at c.min-count.ensures) (omega arith) (omega arith) c.loop-i.invariant.1
