use Rattle.model_semantics.specs.declared.State.{State}
use Rattle.records.specs.Run.{Tally}
use Rattle.std.proofs.Common.{ap}
use Rattle.model_reader.specs.Lent.{read_new}
use Rattle.futonkestrel_starts.specs.StartLaws.{start_refused, start_told}
use Rattle.futonkestrel_starts.proofs.start_test.Goals as goal

pub returns-then-not-is_none : goal.returns-then-not-is_none
returns-then-not-is_none c = start_refused _ _ _ _ (read_new c.read_model_into-refusal.ensures) c.is_none.ensures c.tell_refusal-result.ensures c.if-not-is_none.true

pub returns : goal.returns
returns c = start_told _ _ _ _ (read_new c.read_model_into-refusal.ensures) c.is_none.ensures c.tell_refusal-result.ensures c.if-not-is_none.false (ap (λ (x : Tally State). x.state) c.run_on_in.ensures) c.start_fault-step.ensures c.put_item.ensures
