use Rattle.model_tests.specs.TestLaws.{job_by}
use Rattle.std.proofs.Common.{ap}
use Rattle.numbers.specs.declared.Duration.{Duration}
use Rattle.model_tests.proofs.views.job_of.Goals as goal

pub returns : goal.returns
returns c = job_by _ _ _ _ _ _ _ c.is_active.ensures c.code_of.ensures (ap (λ (d : Duration). d.0) c.dispatch_time.ensures) (ap (λ (d : Duration). d.0) c.length_of.ensures) (ap (λ (d : Duration). d.0) c.spent_of.ensures)
