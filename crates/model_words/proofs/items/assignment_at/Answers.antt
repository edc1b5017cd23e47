use Rattle.std.proofs.Common.{◌∙◌, ◌+◌, ◌*◌}
use Rattle.model_format.specs.Model as items
use Rattle.model_words.specs.Words as words
use Rattle.model_words.specs.Laws.{item_capped}
use Rattle.model_words.proofs.items.assignment_at.Goals as goal

pub returns : goal.returns
unfolding items.assignment_at words.behavior_in words.assignments_in
returns c = c.item_at.ensures ∙ item_capped items.max_times (words.assignments_in c.args.model.now) _ (c.args.transition * items.max_each + c.args.number) items.no_assignment c.place.ensures
