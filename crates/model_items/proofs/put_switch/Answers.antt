use Rattle.std.proofs.Common.{List, ℕ, ◌≡◌, refl, rules}
use Rattle.model_format.specs.Laws.{by_room}
use Rattle.model_words.specs.Words.{model_in}
use Rattle.model_items.specs.Replaced.{with_switch}
use Rattle.model_items.specs.Changed.{switch_unchanged}
use Rattle.model_items.specs.Stored.{switch_put}
use Rattle.model_items.proofs.put_switch.Goals as goal

pub returns : goal.returns
returns c = by_room (λ (l : List ℕ). model_in l ≡ with_switch (model_in c.args.model.now) c.args.i c.args.switch) c.put_fields.ensures (λ h. switch_put _ _ _ _ _ c.requires h refl refl (search rules) (search rules)) (λ h. switch_unchanged _ _ _ h)
