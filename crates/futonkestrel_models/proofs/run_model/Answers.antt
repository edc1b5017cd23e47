use Rattle.numbers.specs.declared.Duration.{Duration}
use Rattle.std.proofs.Common.{ap}
use Rattle.model_reader.specs.Lent.{read_new}
use Rattle.futonkestrel_models.specs.Laws.{model_unread, model_run}
use Rattle.futonkestrel_models.proofs.run_model.Goals as goal

pub returns-then-not-is_none : goal.returns-then-not-is_none
returns-then-not-is_none c = model_unread _ _ (read_new c.read_model_into-refusal.ensures) c.is_none.ensures c.if-not-is_none.true c.tell_run.ensures

pub returns : goal.returns
returns c = model_run _ _ (read_new c.read_model_into-refusal.ensures) c.is_none.ensures c.if-not-is_none.false c.run_in-ran.ensures (ap (λ (d : Duration). d.0) c.now_of-clock.ensures) c.tell_run-2.ensures
