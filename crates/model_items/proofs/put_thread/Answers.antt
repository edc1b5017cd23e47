use Rattle.std.proofs.Common.{List, ℕ, ◌≡◌, refl, rules}
use Rattle.model_format.specs.Laws.{by_room}
use Rattle.model_words.specs.Words.{model_in}
use Rattle.model_items.specs.Replaced.{with_thread}
use Rattle.model_items.specs.Changed.{thread_unchanged}
use Rattle.model_items.specs.Stored.{thread_put}
use Rattle.model_items.proofs.put_thread.Goals as goal

pub returns : goal.returns
returns c = by_room (λ (l : List ℕ). model_in l ≡ with_thread (model_in c.args.model.now) c.args.i c.args.thread) c.put_fields.ensures (λ h. thread_put _ _ _ _ _ c.requires h refl refl (search rules) (search rules) (search rules)) (λ h. thread_unchanged _ _ _ h)
