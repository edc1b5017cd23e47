use Rattle.std.proofs.Common.{◌∙◌, arith, le-leb}
use Rattle.model_faults.specs.Laws.{mask_shifted, mask_within}
use Rattle.model_faults.proofs.mask_fits.Goals as goal

pub returns-then-stand-ge-MAX_MODES : goal.returns-then-stand-ge-MAX_MODES
returns-then-stand-ge-MAX_MODES c = le-leb _ _ c.if-stand-ge-MAX_MODES.true ∙ mask_within _ _ (omega (arith, c.ranges)) c.if-stand-ge-MAX_MODES.true

pub returns-else-stand-ge-MAX_MODES : goal.returns-else-stand-ge-MAX_MODES
returns-else-stand-ge-MAX_MODES c = mask_shifted _ _
