use Rattle.futonkestrel_variables.specs.Laws.{before_times, of_due, of_end, behind_times}
use Rattle.futonkestrel_variables.proofs.number_with_times.Goals as goal

pub returns-then-j-lt-DUE : goal.returns-then-j-lt-DUE
returns-then-j-lt-DUE c = before_times _ _ _ c.if-j-lt-DUE.true c.number_shown.ensures

pub returns-then-j-lt-END : goal.returns-then-j-lt-END
returns-then-j-lt-END c = of_due _ _ _ c.if-j-lt-DUE.false c.if-j-lt-END.true c.due_number.ensures

pub returns-then-j-lt-BEHAVIOR : goal.returns-then-j-lt-BEHAVIOR
returns-then-j-lt-BEHAVIOR c = of_end _ _ _ c.if-j-lt-END.false c.if-j-lt-BEHAVIOR.true c.end_number.ensures

pub returns : goal.returns
returns c = behind_times _ _ _ c.if-j-lt-BEHAVIOR.false c.number_shown-2.ensures
