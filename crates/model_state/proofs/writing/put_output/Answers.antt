use Rattle.std.proofs.Common.{List, ℕ, ◌≡◌, refl, rules}
use Rattle.model_state.specs.Parts as parts
use Rattle.model_format.specs.Laws.{by_room}
use Rattle.model_state.specs.Words as words
use Rattle.model_state.specs.StateLaws.{put_output_lem, skip_output, value_back}
use Rattle.model_state.proofs.writing.put_output.Goals as goal

pub returns : goal.returns
returns c =
    by_room (λ (l : List ℕ). words.state_in l ≡ parts.put_output (words.state_in c.args.state.now) c.args.port c.args.value) c.put_number.ensures (λ h. put_output_lem _ _ _ _ _ h refl (value_back _ _ c.bits.ensures (search rules))) (λ h. skip_output _ _ _ h)
