use Rattle.std.proofs.Common.{List, ℕ, ◌≡◌, refl, arith}
use Rattle.model_semantics.specs.State as semantics
use Rattle.model_format.specs.Laws.{by_room}
use Rattle.model_state.specs.Words as words
use Rattle.model_state.specs.StateLaws.{put_behavior, skip_behavior, byte_back}
use Rattle.model_state.proofs.writing.put_behavior.Goals as goal

pub returns : goal.returns
returns c =
    by_room (λ (l : List ℕ). words.state_in l ≡ semantics.with_behavior (words.state_in c.args.state.now) c.args.thread c.args.to) c.put_number.ensures (λ h. put_behavior _ _ _ _ _ h refl (byte_back _ _ c.from.ensures (omega (arith, c.ranges)))) (λ h. skip_behavior _ _ _ h)
