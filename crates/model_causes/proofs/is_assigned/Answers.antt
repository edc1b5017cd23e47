use Rattle.std.proofs.Common.{arith, ◌∙◌, refl, rules, tests, ℕ, ap}
use Rattle.numbers.specs.Lists.{any_below}
use Rattle.numbers.specs.RangeLaws.{any_in_range}
use Rattle.std.proofs.lemmas.Iterator.{YieldsList-from_range}
use Rattle.std.proofs.lemmas.Iterator.Search.{any_from_yields_List}
use Rattle.model_words.specs.Words.{behavior_in}
use Rattle.model_causes.specs.Readings.{has_target}
use Rattle.model_causes.proofs.is_assigned.Goals as goal

pub returns : goal.returns
returns c =
    any_from_yields_List (λ (i : ℕ). has_target (behavior_in c.args.model.now) c.args.transition c.args.assignment i) _ _ _ c.any.ensures.ran (YieldsList-from_range 0 c.from.result c.from.result refl (omega arith)) (λ x b q k. search (rules, tests))
    ∙ any_in_range c.from.result _
    ∙ ap (λ (n : ℕ). any_below n (has_target (behavior_in c.args.model.now) c.args.transition c.args.assignment)) c.from.ensures
