use Rattle.model_semantics.specs.declared.State.{State}
use Rattle.records.specs.Run.{Tally}
use Rattle.std.proofs.Common.{ap}
use Rattle.model_reader.specs.Lent.{read_new}
use Rattle.futonkestrel_models.specs.Laws.{after_refused, after_short, after_shown}
use Rattle.futonkestrel_models.proofs.model_after.Goals as goal

pub returns-then-not-is_none : goal.returns-then-not-is_none
returns-then-not-is_none c = after_refused _ _ _ _ (read_new c.read_model_into-cause.ensures) c.is_none.ensures c.if-not-is_none.true

pub returns-then-lent-lt-VARIABLES : goal.returns-then-lent-lt-VARIABLES
returns-then-lent-lt-VARIABLES c = after_short _ _ _ _ (read_new c.read_model_into-cause.ensures) c.is_none.ensures c.if-not-is_none.false c.if-lent-lt-VARIABLES.true

pub returns : goal.returns
returns c = after_shown _ _ _ _ (read_new c.read_model_into-cause.ensures) c.is_none.ensures c.if-not-is_none.false c.if-lent-lt-VARIABLES.false (rw (c.event_of.ensures, ap (λ (t : Tally State). t.state) c.run_on_in.ensures) at c.step-answer.ensures.same) c.put_shown.ensures
