use Rattle.model_format.specs.Model as model
use Rattle.model_format.proofs.items.critical_in.Goals as goal

pub returns-then-is_critical : goal.returns-then-is_critical
unfolding model.critical_in
returns-then-is_critical c = rw (← c.is_critical.ensures, c.if-is_critical.true, c.in_mode.ensures)

pub returns-else-is_critical : goal.returns-else-is_critical
unfolding model.critical_in
returns-else-is_critical c = rw (← c.is_critical.ensures, c.if-is_critical.false)
