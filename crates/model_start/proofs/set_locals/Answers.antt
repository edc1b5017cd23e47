use Rattle.std.proofs.Common.{arith, refl, rules}
use Rattle.model_start.specs.Starting.{locals_none, locals_next, locals_all}
use Rattle.model_start.proofs.set_locals.Goals as goal

pub loop-v-init : goal.loop-v-init
loop-v-init c = (refl, locals_none _ _)

pub loop-v-preserved : goal.loop-v-preserved
loop-v-preserved c = (search rules, locals_next _ _ _ _ _ _ c.loop-v.invariant.1 c.local_at.ensures c.put_local.ensures)

pub returns : goal.returns
returns c = locals_all _ _ _ _ _ (rw c.locals.ensures at c.min-count.ensures) (omega arith) (omega arith) c.loop-v.invariant.1
