use Rattle.std.proofs.Common.{◌∙◌, ap, not}
use Rattle.model_causes.specs.Fits.{operand_not, operand_item}
use Rattle.model_causes.proofs.fits.operand_fits.Goals as goal

pub returns-then-operand_tag : goal.returns-then-operand_tag
returns-then-operand_tag c = operand_item _ _ _ _ c.operand_tag.ensures (ap not c.if-operand_tag.true) _ _ c.number_in.ensures c.item_fits.ensures

pub returns-else-operand_tag : goal.returns-else-operand_tag
returns-else-operand_tag c = c.if-operand_tag.false ∙ operand_not _ _ _ _ c.operand_tag.ensures (ap not c.if-operand_tag.false)
