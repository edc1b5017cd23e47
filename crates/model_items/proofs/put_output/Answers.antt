use Rattle.std.proofs.Common.{List, ℕ, ◌≡◌, rules, arith, ◌+◌, ◌*◌}
use Rattle.model_format.specs.Laws.{by_room}
use Rattle.model_words.specs.Words.{outputs_from, model_in}
use Rattle.model_items.specs.Replaced.{with_output}
use Rattle.model_items.specs.Changed.{output_unchanged}
use Rattle.model_items.specs.Stored.{output_put}
use Rattle.model_items.proofs.put_output.Goals as goal

pub returns : goal.returns
returns c = by_room (λ (l : List ℕ). model_in l ≡ with_output (model_in c.args.model.now) c.args.i c.args.owner) c.put_fields.ensures (λ h. output_put _ _ _ _ c.requires h (let e : outputs_from + c.args.i * 1 ≡ outputs_from + c.args.i = omega arith in rw e) (search rules)) (λ h. output_unchanged _ _ _ h)
