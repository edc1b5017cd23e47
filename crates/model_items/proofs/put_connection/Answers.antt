use Rattle.std.proofs.Common.{List, ℕ, ◌≡◌, refl, rules}
use Rattle.model_format.specs.Laws.{by_room}
use Rattle.model_words.specs.Words.{model_in}
use Rattle.model_items.specs.Replaced.{with_connection}
use Rattle.model_items.specs.Changed.{connection_unchanged}
use Rattle.model_items.specs.Stored.{connection_put}
use Rattle.model_items.proofs.put_connection.Goals as goal

pub returns : goal.returns
returns c = by_room (λ (l : List ℕ). model_in l ≡ with_connection (model_in c.args.model.now) c.args.i c.args.connection) c.put_fields.ensures (λ h. connection_put _ _ _ _ _ c.requires h refl refl (search rules) (search rules) (search rules) (search rules)) (λ h. connection_unchanged _ _ _ h)
