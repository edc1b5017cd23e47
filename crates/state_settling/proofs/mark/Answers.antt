use Rattle.std.proofs.Common.{◌≡◌, ◌∙◌, Bool, true, false, refl}
use mir.Val.{bool_byte}
use Rattle.model_state.specs.Words.{mark_in}
use Rattle.state_settling.specs.Words.{mark_number}
use Rattle.state_settling.proofs.mark.Goals as goal

mark_byte : (b : Bool) → bool_byte b ≡ mark_number b
unfolding mark_number
mark_byte true = refl
mark_byte false = refl

pub returns : goal.returns
unfolding mark_in
returns c = c.from.ensures ∙ mark_byte _
