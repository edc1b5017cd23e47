use Rattle.std.proofs.Common.{arith}
use Rattle.model_time.specs.TimeLaws.{spent_none, spent_next, spent_all}
use Rattle.model_state.specs.TimeLaws.{beside_none, beside_again}
use Rattle.model_time.proofs.spend_all.Goals as goal

pub loop-t-init : goal.loop-t-init
loop-t-init c = (spent_none _ _, beside_none _)

pub loop-t-preserved : goal.loop-t-preserved
loop-t-preserved c = (spent_next _ _ _ _ _ c.loop-t.invariant.0 c.spend.ensures.0, beside_again _ _ _ c.loop-t.invariant.1 c.spend.ensures.1)

pub returns : goal.returns
returns c = (spent_all _ _ _ _ _ _ (rw c.threads.ensures at c.min-count.ensures) (omega arith) (omega arith) c.loop-t.invariant.0, c.loop-t.invariant.1)
