use Rattle.std.proofs.Common.{List, ℕ, ◌≡◌, refl}
use Rattle.model_state.specs.Parts as parts
use Rattle.model_format.specs.Laws.{by_room}
use Rattle.model_state.specs.Words as words
use Rattle.model_state.specs.StateLaws.{put_length, skip_length}
use Rattle.model_state.proofs.writing.put_length.Goals as goal

pub returns : goal.returns
returns c =
    by_room (λ (l : List ℕ). words.state_in l ≡ parts.with_length (words.state_in c.args.state.now) c.args.thread c.args.length.0) c.put_number.ensures (λ h. put_length _ _ _ _ _ h refl refl) (λ h. skip_length _ _ _ h)
