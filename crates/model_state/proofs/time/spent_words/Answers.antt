use Rattle.std.proofs.Common.{arith, refl}
use Rattle.model_state.specs.TimeLaws.{reading_next, reading_all}
use Rattle.model_state.proofs.time.spent_words.Goals as goal

pub loop-thread-init : goal.loop-thread-init
loop-thread-init c = record { size = refl; each = λ u h. absurd (omega arith) }

pub bounds-kept-thread : goal.bounds-kept-thread
bounds-kept-thread c = omega (arith, c.loop-thread.invariant.size, c.loop-thread-test.true)

pub loop-thread-preserved : goal.loop-thread-preserved
loop-thread-preserved c = reading_next _ _ _ _ c.loop-thread-test.true c.loop-thread.invariant c.item_or.ensures

pub returns : goal.returns
returns c = reading_all _ _ _ c.loop-thread-test.false c.loop-thread.invariant
