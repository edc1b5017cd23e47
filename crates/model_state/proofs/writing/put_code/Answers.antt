use Rattle.std.proofs.Common.{List, ℕ, ◌≡◌, refl, arith}
use Rattle.model_semantics.specs.State as semantics
use Rattle.model_format.specs.Laws.{by_room}
use Rattle.model_state.specs.Words as words
use Rattle.model_state.specs.StateLaws.{put_code, skip_code, byte_back}
use Rattle.model_state.proofs.writing.put_code.Goals as goal

pub returns : goal.returns
returns c =
    by_room (λ (l : List ℕ). words.state_in l ≡ semantics.with_code (words.state_in c.args.state.now) c.args.thread c.args.code) c.put_number.ensures (λ h. put_code _ _ _ _ _ h refl (byte_back _ _ c.from.ensures (omega (arith, c.ranges)))) (λ h. skip_code _ _ _ h)
