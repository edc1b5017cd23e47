use Rattle.std.proofs.Common.{refl, rules}
use Rattle.model_behavior.specs.AssignLaws.{assigned_none, assigned_next}
use Rattle.model_behavior.proofs.assigning.store_values.Goals as goal

pub loop-j-init : goal.loop-j-init
loop-j-init c = (assigned_none _ _ _, refl)

pub loop-j-preserved : goal.loop-j-preserved
loop-j-preserved c = (assigned_next _ _ _ _ _ _ _ _ _ _ _ c.loop-j.invariant.0 c.loop-j-test.true c.requires c.assignment_at.ensures c.item_or.ensures c.value_of-value.ensures c.store_one.ensures, search rules)
