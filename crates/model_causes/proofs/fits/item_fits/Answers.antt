use Rattle.std.proofs.Common.{◌∙◌, le-ltb}
use Rattle.model_causes.specs.Fits.{no_input, no_local, no_output, an_input, a_local, an_output, no_item}
use Rattle.model_causes.proofs.fits.item_fits.Goals as goal

pub returns-then-number-inputs : goal.returns-then-number-inputs
returns-then-number-inputs c = an_input _ _ _ _ _ c.in-1.is c.inputs.ensures c.if-number-inputs.true _ c.input_owner.ensures

pub returns-else-number-inputs : goal.returns-else-number-inputs
returns-else-number-inputs c = le-ltb _ _ c.if-number-inputs.false ∙ no_input _ _ _ _ _ c.in-1.is c.inputs.ensures c.if-number-inputs.false

pub returns-then-number-locals : goal.returns-then-number-locals
returns-then-number-locals c = a_local _ _ _ _ _ c.in-2.is c.locals.ensures c.if-number-locals.true _ c.local_at.ensures

pub returns-else-number-locals : goal.returns-else-number-locals
returns-else-number-locals c = le-ltb _ _ c.if-number-locals.false ∙ no_local _ _ _ _ _ c.in-2.is c.locals.ensures c.if-number-locals.false

pub returns-then-number-outputs : goal.returns-then-number-outputs
returns-then-number-outputs c = an_output _ _ _ _ _ c.in-3.is c.outputs.ensures c.if-number-outputs.true _ c.output_owner.ensures

pub returns-else-number-outputs : goal.returns-else-number-outputs
returns-else-number-outputs c = le-ltb _ _ c.if-number-outputs.false ∙ no_output _ _ _ _ _ c.in-3.is c.outputs.ensures c.if-number-outputs.false

pub returns-in_default : goal.returns-in_default
returns-in_default c = no_item _ _ _ _ c.in_default.in_default-own.rest.0.0.1 c.in_default.in_default-own.rest.0.1 c.in_default.in_default-own.rest.1
