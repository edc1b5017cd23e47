use Rattle.std.proofs.Common.{List, ℕ, ◌≡◌, refl}
use Rattle.model_state.specs.Parts as parts
use Rattle.model_format.specs.Laws.{by_room}
use Rattle.model_state.specs.Words as words
use Rattle.model_state.specs.StateLaws.{put_active_lem, skip_active}
use Rattle.model_state.proofs.writing.put_active.Goals as goal

pub returns : goal.returns
returns c =
    by_room (λ (l : List ℕ). words.state_in l ≡ parts.put_active (words.state_in c.args.state.now) c.args.thread c.args.active) c.put_number.ensures (λ h. put_active_lem _ _ _ _ _ h refl c.mark_of.ensures) (λ h. skip_active _ _ _ h)
