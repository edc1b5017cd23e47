use Rattle.records.specs.Refusals.{number_of}
use mathlib.Core.Path.{◌∙◌, ap}
use Rattle.futonkestrel.proofs.fk_model_variables.Goals as goal

pub returns : goal.returns
returns c = (c.number.ensures ∙ ap number_of c.model_variables-c.ensures.0, c.model_variables-c.ensures.1)
