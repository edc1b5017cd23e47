use Rattle.std.proofs.Common.{lt-ltb, le-ltb}
use Rattle.model_format.specs.Model as model
use Rattle.model_format.proofs.items.in_mode.Goals as goal

pub returns-then-mode-lt8 : goal.returns-then-mode-lt8
unfolding model.in_mode
returns-then-mode-lt8 c = rw (lt-ltb _ _ c.if-mode-lt8.true)

pub returns-else-mode-lt8 : goal.returns-else-mode-lt8
unfolding model.in_mode
returns-else-mode-lt8 c = rw (le-ltb _ _ c.if-mode-lt8.false)
