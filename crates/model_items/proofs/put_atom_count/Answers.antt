use Rattle.std.proofs.Common.{List, ℕ, ◌≡◌, refl, rules}
use Rattle.model_format.specs.Laws.{by_room}
use Rattle.model_words.specs.Words.{model_in}
use Rattle.model_items.specs.Replaced.{with_atom_count}
use Rattle.model_items.specs.Changed.{transition_unchanged}
use Rattle.model_items.specs.Counted.{atom_count_put}
use Rattle.model_items.proofs.put_atom_count.Goals as goal

pub returns : goal.returns
returns c = by_room (λ (l : List ℕ). model_in l ≡ with_atom_count (model_in c.args.model.now) c.args.i c.args.count) c.put_count.ensures (λ h. atom_count_put _ _ _ _ c.requires h (search rules) refl) (λ h. transition_unchanged _ _ _ h)
