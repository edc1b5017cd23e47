use Rattle.std.proofs.Common.{◌∙◌, rules}
use Rattle.model_time.specs.QuietLaws.{more_within}
use Rattle.model_time.specs.TimeLaws.{spend_runs, spend_rests}
use Rattle.model_state.specs.TimeLaws.{beside_none, beside_spent}
use Rattle.model_time.proofs.spend.Goals as goal

pub returns-then-code_of-eq-EXECUTION : goal.returns-then-code_of-eq-EXECUTION
returns-then-code_of-eq-EXECUTION c = (spend_runs _ _ _ _ _ _ _ c.code_of.ensures c.if-code_of-eq-EXECUTION.true c.spent_of.ensures (c.saturating_add-spent.ensures ∙ more_within _ _ (search rules)) c.put_spent.ensures.0, beside_spent _ _ _ _ c.put_spent.ensures.1)

pub returns-else-code_of-eq-EXECUTION : goal.returns-else-code_of-eq-EXECUTION
returns-else-code_of-eq-EXECUTION c = (spend_rests _ _ _ _ c.code_of.ensures c.if-code_of-eq-EXECUTION.false, beside_none _)
