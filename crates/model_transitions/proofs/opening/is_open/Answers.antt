use Rattle.model_transitions.specs.OpenLaws.{open_not, open_by_guard}
use Rattle.std.proofs.Common.{ap, not}
use Rattle.model_transitions.proofs.opening.is_open.Goals as goal

pub returns-then-not-starts_from : goal.returns-then-not-starts_from
returns-then-not-starts_from c = open_not _ _ _ _ _ _ _ c.transition_at-transition.ensures c.starts_from.ensures (ap not c.if-not-starts_from.true)

pub returns : goal.returns
returns c = open_by_guard _ _ _ _ _ _ _ c.transition_at-transition.ensures c.starts_from.ensures _ _ (ap not c.if-not-starts_from.false) c.from.ensures c.guard_holds.ensures
