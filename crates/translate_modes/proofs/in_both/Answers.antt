use Rattle.model_semantics.specs.Effects.{in_both}
use Rattle.translate_modes.proofs.in_both.Goals as goal

pub returns : goal.returns
unfolding in_both
returns c = rw (c.in_mode.ensures, c.in_mode-2.ensures)
