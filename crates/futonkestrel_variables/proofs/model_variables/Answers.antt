use Rattle.futonkestrel_variables.specs.Laws.{shown_short, shown_all}
use Rattle.futonkestrel_variables.proofs.model_variables.Goals as goal

pub returns-then-variables-lt-VARIABLES : goal.returns-then-variables-lt-VARIABLES
returns-then-variables-lt-VARIABLES c = shown_short _ _ _ c.if-variables-lt-VARIABLES.true

pub returns : goal.returns
returns c = shown_all _ _ _ c.if-variables-lt-VARIABLES.false c.put_with_times.ensures
