use Rattle.std.proofs.Common.{refl}
use Rattle.model_state.specs.TimeLaws.{back_none, back_next, back_end}
use Rattle.model_state.proofs.time.put_spent_words.Goals as goal

pub loop-thread-init : goal.loop-thread-init
loop-thread-init c = back_none _ _

pub loop-thread-preserved : goal.loop-thread-preserved
loop-thread-preserved c = back_next _ _ _ _ _ _ c.loop-thread-test.true c.loop-thread.invariant refl c.put_item.ensures

pub shape_of-state : goal.shape_of-state
shape_of-state c = c.loop-thread.invariant.size

pub returns : goal.returns
returns c = back_end _ _ _ _ c.loop-thread-test.false c.loop-thread.invariant
