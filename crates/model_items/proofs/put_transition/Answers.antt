use Rattle.std.proofs.Common.{List, ℕ, ◌≡◌, refl, rules}
use Rattle.model_format.specs.Laws.{by_room}
use Rattle.model_words.specs.Words.{model_in}
use Rattle.model_items.specs.Replaced.{with_transition}
use Rattle.model_items.specs.Changed.{transition_unchanged}
use Rattle.model_items.specs.Stored.{transition_put}
use Rattle.model_items.proofs.put_transition.Goals as goal

pub returns : goal.returns
returns c = by_room (λ (l : List ℕ). model_in l ≡ with_transition (model_in c.args.model.now) c.args.i c.args.transition) c.put_fields.ensures (λ h. transition_put _ _ _ _ _ c.requires h refl refl (search rules) (search rules) (search rules) (search rules) (search rules)) (λ h. transition_unchanged _ _ _ h)
