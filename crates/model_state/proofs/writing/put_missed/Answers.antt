use Rattle.std.proofs.Common.{List, ℕ, ◌≡◌, refl}
use Rattle.model_semantics.specs.State as semantics
use Rattle.model_format.specs.Laws.{by_room}
use Rattle.model_state.specs.Words as words
use Rattle.model_state.specs.StateLaws.{put_missed, skip_missed}
use Rattle.model_state.proofs.writing.put_missed.Goals as goal

pub returns : goal.returns
returns c =
    by_room (λ (l : List ℕ). words.state_in l ≡ semantics.with_missed (words.state_in c.args.state.now) c.args.thread c.args.count) c.put_number.ensures (λ h. put_missed _ _ _ _ _ h refl refl) (λ h. skip_missed _ _ _ h)
