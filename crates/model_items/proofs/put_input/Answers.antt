use mir.Syntax.{w32}
use mir.ValLaws.{to_z-of_z}
use Rattle.std.proofs.Common.{List, ℕ, ◌≡◌, refl, rules}
use Rattle.model_format.specs.Laws.{by_room}
use Rattle.model_words.specs.Words.{model_in}
use Rattle.model_items.specs.Replaced.{with_input}
use Rattle.model_items.specs.Changed.{input_unchanged}
use Rattle.model_items.specs.Stored.{input_put}
use Rattle.model_items.proofs.put_input.Goals as goal

pub returns : goal.returns
returns c = by_room (λ (l : List ℕ). model_in l ≡ with_input (model_in c.args.model.now) c.args.i c.args.input) c.put_fields.ensures (λ h. input_put _ _ _ _ _ _ c.requires refl (search rules) c.bits.ensures (to_z-of_z w32 _ (search rules)) h refl) (λ h. input_unchanged _ _ _ h)
