use Rattle.std.proofs.Common.{refl, sym, ◌∙◌}
use Rattle.model_takes.specs.Taken.{taken_not, taken_as}
use Rattle.model_takes.proofs.take.Goals as goal

pub returns-then-is_none : goal.returns-then-is_none
returns-then-is_none g c = (c.cause-cause.ensures, taken_as _ _ _ _ _ (sym c.is_none.ensures ∙ c.if-is_none.true) refl c.add.ensures)

pub returns-else-is_none : goal.returns-else-is_none
returns-else-is_none g c = (c.cause-cause.ensures, taken_not _ _ _ (sym c.is_none.ensures ∙ c.if-is_none.false))
