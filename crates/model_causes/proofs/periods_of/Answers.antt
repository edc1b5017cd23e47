use Rattle.std.proofs.Common.{◌≡◌, ℕ, ◌≤◌, arith, sym}
use Rattle.numbers.specs.ListLaws.{fold_zero}
use Rattle.model_format.specs.Laws.{periods_next, periods_all}
use Rattle.model_faults.specs.Laws.{period_at}
use Rattle.model_faults.specs.Causes as causes
use Rattle.model_causes.proofs.periods_of.Goals as goal

same_at : (t n k : ℕ) → t ≤ n → n ≤ t → n ≡ k → t ≡ k
same_at t n k h l e = omega arith

pub loop-t-init : goal.loop-t-init
loop-t-init c = (sym (fold_zero _ _), sym (fold_zero _ _))

pub loop-t-preserved : goal.loop-t-preserved
loop-t-preserved c = (periods_next _ _ _ _ _ _ c.loop-t.invariant.0 (period_at _ _ _ _ _ _ _ c.thread_at-thread.ensures c.with_period-h1.ensures), periods_next _ _ _ _ _ _ c.loop-t.invariant.1 (period_at _ _ _ _ _ _ _ c.thread_at-thread.ensures c.with_period-h2.ensures))

pub returns : goal.returns
unfolding causes.found_in
returns c = let e = same_at _ _ _ c.loop-t.auto.t-end c.loop-t-test.false c.threads-count.ensures in
    rw (periods_all _ _ _ _ _ c.loop-t.invariant.0 e, periods_all _ _ _ _ _ c.loop-t.invariant.1 e)
