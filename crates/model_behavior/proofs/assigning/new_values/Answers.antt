use Rattle.std.proofs.Common.{arith, refl, rules}
use Rattle.model_state.specs.StateLaws.{value_back}
use Rattle.model_behavior.specs.AssignLaws.{values_next}
use Rattle.model_behavior.proofs.assigning.new_values.Goals as goal

pub loop-j-preserved : goal.loop-j-preserved
loop-j-preserved c = (values_next _ _ _ _ _ _ _ _ _ c.loop-j.invariant.0 (omega arith) c.assignment_at.ensures c.assigned_value.ensures (value_back _ _ c.bits.ensures (search rules)) refl, search rules)
