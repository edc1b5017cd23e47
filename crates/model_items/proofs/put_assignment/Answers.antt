use mir.Syntax.{w32}
use mir.ValLaws.{to_z-of_z}
use Rattle.std.proofs.Common.{List, ℕ, ◌≡◌, refl, rules}
use Rattle.model_format.specs.Laws.{by_room}
use Rattle.model_words.specs.Words.{model_in}
use Rattle.model_items.specs.Replaced.{with_assignment}
use Rattle.model_items.specs.Changed.{assignment_unchanged}
use Rattle.model_items.specs.Stored.{assignment_put}
use Rattle.model_items.proofs.put_assignment.Goals as goal

pub returns : goal.returns
returns c = by_room (λ (l : List ℕ). model_in l ≡ with_assignment (model_in c.args.model.now) c.args.i c.args.assignment) c.put_fields.ensures (λ h. assignment_put _ _ _ _ _ _ _ c.requires h refl refl (search rules) (search rules) (search rules) (search rules) c.bits.ensures (to_z-of_z w32 _ (search rules)) (search rules) c.bits-2.ensures (to_z-of_z w32 _ (search rules))) (λ h. assignment_unchanged _ _ _ h)
