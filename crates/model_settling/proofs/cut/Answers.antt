use Rattle.model_settling.specs.Cut.{left_whole, cut_short}
use Rattle.model_settling.proofs.cut.Goals as goal

pub returns-then-width-eq0 : goal.returns-then-width-eq0
returns-then-width-eq0 c = left_whole _ _ c.if-width-eq0.true

pub returns-else-width-eq0 : goal.returns-else-width-eq0
returns-else-width-eq0 c = cut_short _ _ c.if-width-eq0.false
