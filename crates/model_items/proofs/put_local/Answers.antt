use mir.Syntax.{w32}
use mir.ValLaws.{to_z-of_z}
use Rattle.std.proofs.Common.{List, ℕ, ◌≡◌, refl, rules}
use Rattle.model_format.specs.Laws.{by_room}
use Rattle.model_words.specs.Words.{model_in}
use Rattle.model_items.specs.Replaced.{with_local}
use Rattle.model_items.specs.Changed.{local_unchanged}
use Rattle.model_items.specs.Stored.{local_put}
use Rattle.model_items.proofs.put_local.Goals as goal

pub returns : goal.returns
returns c = by_room (λ (l : List ℕ). model_in l ≡ with_local (model_in c.args.model.now) c.args.i c.args.local) c.put_fields.ensures (λ h. local_put _ _ _ _ _ _ c.requires refl (search rules) c.bits.ensures (to_z-of_z w32 _ (search rules)) h refl) (λ h. local_unchanged _ _ _ h)
