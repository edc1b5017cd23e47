use Rattle.std.proofs.Common.{◌∙◌, ◌+◌, ◌*◌, ◌≡◌, ap, arith, List, ℕ}
use Rattle.numbers.specs.Lists.{item}
use Rattle.numbers.specs.ListLaws.{list_below_same}
use Rattle.model_format.specs.Model as items
use Rattle.model_words.specs.Words as words
use Rattle.model_words.proofs.items.output_owner.Goals as goal

pub returns : goal.returns
unfolding items.output_owner words.timing_in words.outputs_in
returns c =
    c.item_at.ensures
    ∙ ap (λ (l : List ℕ). item items.max_outputs l c.args.port 0) (list_below_same items.max_outputs (λ j. words.byte_in c.args.model.now (words.outputs_from + j * 1)) (λ j. words.byte_in c.args.model.now (words.outputs_from + j)) (λ j k. let z : j * 1 ≡ j = omega arith in rw z))
