use Rattle.std.proofs.Common.{List, ℕ, ◌≡◌, refl}
use Rattle.model_semantics.specs.State as semantics
use Rattle.model_format.specs.Laws.{by_room}
use Rattle.model_state.specs.Words as words
use Rattle.model_state.specs.Parts as parts
use Rattle.model_state.specs.StateLaws.{put_spent, skip_spent}
use Rattle.model_state.proofs.writing.put_spent.Goals as goal

pub returns : goal.returns
unfolding parts.spent_stored
returns c = (
  by_room (λ (l : List ℕ). words.state_in l ≡ semantics.with_spent (words.state_in c.args.state.now) c.args.thread c.args.spent.0) c.put_number.ensures (λ h. put_spent _ _ _ _ _ h refl refl) (λ h. skip_spent _ _ _ h),
  c.put_number.ensures,
)
