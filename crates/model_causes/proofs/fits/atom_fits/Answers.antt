use Rattle.std.proofs.Common.{sym, ◌∙◌, ap, not}
use Rattle.model_causes.specs.Readings.{reading_in}
use Rattle.model_causes.specs.Fits.{passed, atom_clear}
use Rattle.model_causes.proofs.fits.atom_fits.Goals as goal

pub returns : goal.returns
returns c = λ h. atom_clear (reading_in c.args.last c.args.model.now) _ c.requires c.args.atom _ c.from.ensures (passed _ _ c.in_order.ensures (ap not c.if-not-in_order.false)) c.if-transition-ge-MAX_EACH_BYTE.false c.if-atom-ge-COMPARISONS.false (passed _ _ c.left_tag.ensures (ap not c.if-not-left_tag.false)) (passed _ _ c.item_fits.ensures (ap not c.if-not-item_fits.false)) (sym c.operand_fits.ensures ∙ h)
