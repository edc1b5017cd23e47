use mir.Syntax.{w32}
use mir.ValLaws.{to_z-of_z}
use Rattle.std.proofs.Common.{List, ℕ, ◌≡◌, refl, rules}
use Rattle.model_format.specs.Laws.{by_room}
use Rattle.model_words.specs.Words.{model_in}
use Rattle.model_items.specs.Replaced.{with_atom}
use Rattle.model_items.specs.Changed.{atom_unchanged}
use Rattle.model_items.specs.Stored.{atom_put}
use Rattle.model_items.proofs.put_atom.Goals as goal

pub returns : goal.returns
returns c = by_room (λ (l : List ℕ). model_in l ≡ with_atom (model_in c.args.model.now) c.args.i c.args.atom) c.put_fields.ensures (λ h. atom_put _ _ _ _ _ _ c.requires h refl refl (search rules) (search rules) (search rules) (search rules) c.bits.ensures (to_z-of_z w32 _ (search rules))) (λ h. atom_unchanged _ _ _ h)
