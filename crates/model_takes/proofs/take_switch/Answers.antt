use Rattle.std.proofs.Common.{refl, sym, ◌∙◌}
use Rattle.model_takes.specs.Rooms.{short_periods, switch_periods, switch_room}
use Rattle.model_takes.specs.Taken.{taken_not, taken_as}
use Rattle.model_takes.proofs.take_switch.Goals as goal

pub period_of-requires : goal.period_of-requires
period_of-requires c = (short_periods _ _ _ _ c.cause_of_switch-cause.ensures (sym c.is_none.ensures ∙ c.if-is_none.true) _ refl _ c.periods_of-found.ensures).0

pub period_of-requires-then-is_none : goal.period_of-requires-then-is_none
period_of-requires-then-is_none c = (short_periods _ _ _ _ c.cause_of_switch-cause.ensures (sym c.is_none.ensures ∙ c.if-is_none.true) _ refl _ c.periods_of-found.ensures).1

pub add_switch-requires : goal.add_switch-requires
add_switch-requires c = record { whole_model = (c.requires, switch_room _ _ _ _ c.cause_of_switch-cause.ensures (sym c.is_none.ensures ∙ c.if-is_none.true) _ refl); hyperperiods = switch_periods _ _ _ _ c.cause_of_switch-cause.ensures (sym c.is_none.ensures ∙ c.if-is_none.true) _ refl _ c.periods_of-found.ensures _ _ c.period_of.ensures c.period_of-then-is_none.ensures }

pub returns-then-is_none : goal.returns-then-is_none
returns-then-is_none c = (c.cause_of_switch-cause.ensures, taken_as _ _ _ _ _ (sym c.is_none.ensures ∙ c.if-is_none.true) refl c.add_switch.ensures)

pub returns-else-is_none : goal.returns-else-is_none
returns-else-is_none c = (c.cause_of_switch-cause.ensures, taken_not _ _ _ (sym c.is_none.ensures ∙ c.if-is_none.false))
