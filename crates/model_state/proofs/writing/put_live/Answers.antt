use Rattle.std.proofs.Common.{List, ℕ, ◌≡◌, refl}
use Rattle.model_state.specs.Parts as parts
use Rattle.model_format.specs.Laws.{by_room}
use Rattle.model_state.specs.Words as words
use Rattle.model_state.specs.StateLaws.{put_live_lem, skip_live}
use Rattle.model_state.proofs.writing.put_live.Goals as goal

pub returns : goal.returns
returns c =
    by_room (λ (l : List ℕ). words.state_in l ≡ parts.put_live (words.state_in c.args.state.now) c.args.connection c.args.live) c.put_number.ensures (λ h. put_live_lem _ _ _ _ _ h refl c.mark_of.ensures) (λ h. skip_live _ _ _ h)
