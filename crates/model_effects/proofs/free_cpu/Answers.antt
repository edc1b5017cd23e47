use Rattle.model_effects.specs.Events.{freed_ran, freed_not}
use Rattle.model_format.specs.Model.{empty_model}
use Rattle.model_effects.proofs.free_cpu.Goals as goal

pub returns-then-ran : goal.returns-then-ran
returns-then-ran c = freed_ran _ _ _ empty_model.timing 0 c.if-ran.true (c.put_cpu.ensures empty_model.timing 0)

pub returns-else-ran : goal.returns-else-ran
returns-else-ran c = freed_not _ _ c.if-ran.false
