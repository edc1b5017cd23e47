use Rattle.checking_loop.specs.Laws.{after_refused, after_taken}
use Rattle.checking_loop.proofs.view_after.Goals as goal

pub returns-then-not-is_none : goal.returns-then-not-is_none
returns-then-not-is_none c = after_refused _ _ _ c.is_none.ensures c.if-not-is_none.true

pub returns : goal.returns
returns c = after_taken _ _ _ c.is_none.ensures _ _ c.if-not-is_none.false c.next_count.ensures c.view_with.ensures
