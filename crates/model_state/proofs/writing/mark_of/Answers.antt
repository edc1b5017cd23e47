use Rattle.std.proofs.Common.{◌≡◌, Bool, true, false, refl}
use mir.Val.{bool_byte}
use Rattle.model_state.specs.Words.{mark_in}
use Rattle.model_state.proofs.writing.mark_of.Goals as goal

mark_back : (b : Bool) → mark_in (bool_byte b) ≡ b
unfolding mark_in
mark_back true = refl
mark_back false = refl

pub returns : goal.returns
returns c = rw c.from.ensures (mark_back c.args.mark)
