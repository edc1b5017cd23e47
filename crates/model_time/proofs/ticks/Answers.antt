use Rattle.std.proofs.Common.{arith}
use Rattle.model_time.specs.TimeLaws.{all_passed, put_back, now_word, now_is}
use Rattle.model_time.specs.TickLaws.{ticks_end, ticks_busy, ticks_late, ticks_on}
use Rattle.model_state.specs.TimeLaws.{beside_again}
use Rattle.model_time.proofs.ticks.Goals as goal

pub returns-then-is_busy : goal.returns-then-is_busy
returns-then-is_busy c = put_back _ _ _ _ _ c.refused.ensures.0 (c.refused.ensures.1 _ c.loop-left.invariant.1 (now_word _ _ c.now_of-first.ensures) c.spent_words-kept.ensures) (ticks_busy _ _ _ _ _ c.loop-left.invariant.2 c.loop-left-test.true _ c.is_busy.ensures c.if-is_busy.true)

pub returns-then-clock-ge-LAST_CLOCK : goal.returns-then-clock-ge-LAST_CLOCK
returns-then-clock-ge-LAST_CLOCK c = put_back _ _ _ _ _ c.refused-then-clock-ge-LAST_CLOCK.ensures.0 (c.refused-then-clock-ge-LAST_CLOCK.ensures.1 _ c.loop-left.invariant.1 (now_word _ _ c.now_of-first.ensures) c.spent_words-kept.ensures) (ticks_late _ _ _ _ _ c.loop-left.invariant.2 c.loop-left-test.true _ c.is_busy.ensures c.if-is_busy.false (rw (now_is _ _ c.now_of-clock.ensures) at c.if-clock-ge-LAST_CLOCK.true))

pub loop-left-preserved : goal.loop-left-preserved
loop-left-preserved c = (omega arith, beside_again _ _ _ c.loop-left.invariant.1 c.pass.ensures.1, ticks_on _ _ _ _ _ c.loop-left.invariant.2 c.loop-left-test.true _ c.is_busy.ensures c.if-is_busy.false _ _ (omega (arith, c.quiet_ticks-q.ensures.1.0, c.min.ensures)) (omega (arith, c.quiet_ticks-q.ensures.1.0, c.min.ensures, c.if-clock-ge-LAST_CLOCK.false, now_is _ _ c.now_of-clock.ensures)) c.quiet_ticks-q.ensures.1.1 c.pass.ensures.0)

pub returns : goal.returns
returns c = all_passed _ _ _ (ticks_end _ _ _ _ _ c.loop-left.invariant.2 c.loop-left-test.false)
