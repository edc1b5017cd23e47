use Rattle.std.proofs.Common.{sym, ◌∙◌, ap, not}
use borrow.Author.Tests.{not-true}
use Rattle.model_causes.specs.Readings.{reading_in}
use Rattle.model_causes.specs.Fits.{passed, assignment_clear}
use Rattle.model_causes.proofs.fits.assignment_fits.Goals as goal

pub returns : goal.returns
returns c = λ h. assignment_clear (reading_in c.args.last c.args.model.now) _ c.requires.1 c.args.assignment _ c.from.ensures (passed _ _ c.in_order.ensures (ap not c.if-not-in_order.false)) c.if-transition-ge-MAX_EACH_BYTE.false c.if-assignment-ge-OPERATIONS.false (passed _ _ c.target_tag.ensures (ap not c.if-not-target_tag.false)) (passed _ _ c.item_fits.ensures (ap not c.if-not-item_fits.false)) (passed _ _ c.operand_fits.ensures (ap not c.if-not-operand_fits.false)) (passed _ _ c.operand_fits-2.ensures (ap not c.if-not-operand_fits-2.false)) (rw (← c.requires.0) (sym c.is_assigned.ensures ∙ not-true _ h))
