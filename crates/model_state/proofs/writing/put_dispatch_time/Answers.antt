use Rattle.std.proofs.Common.{List, ℕ, ◌≡◌, refl}
use Rattle.model_semantics.specs.State as semantics
use Rattle.model_format.specs.Laws.{by_room}
use Rattle.model_state.specs.Words as words
use Rattle.model_state.specs.StateLaws.{put_dispatched, skip_dispatched}
use Rattle.model_state.proofs.writing.put_dispatch_time.Goals as goal

pub returns : goal.returns
returns c =
    by_room (λ (l : List ℕ). words.state_in l ≡ semantics.with_dispatch_time (words.state_in c.args.state.now) c.args.thread c.args.at.0) c.put_number.ensures (λ h. put_dispatched _ _ _ _ _ h refl refl) (λ h. skip_dispatched _ _ _ h)
