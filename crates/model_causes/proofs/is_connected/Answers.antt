use Rattle.std.proofs.Common.{arith, ◌∙◌, refl, rules, tests, ℕ, ap}
use Rattle.numbers.specs.Lists.{any_below}
use Rattle.numbers.specs.RangeLaws.{any_in_range}
use Rattle.std.proofs.lemmas.Iterator.{YieldsList-from_range}
use Rattle.std.proofs.lemmas.Iterator.Search.{any_from_yields_List}
use Rattle.model_format.specs.Reading as reading
use Rattle.model_faults.specs.Laws.{connects_to}
use Rattle.model_words.specs.Words.{timing_in}
use Rattle.model_causes.proofs.is_connected.Goals as goal

pub returns : goal.returns
unfolding reading.is_connected
returns c =
    any_from_yields_List (λ (i : ℕ). connects_to (timing_in c.args.model.now) c.args.port i) _ _ _ c.any.ensures.ran (YieldsList-from_range 0 c.connections.result c.connections.result refl (omega arith)) (λ x b q k. search (rules, tests))
    ∙ any_in_range c.connections.result _
    ∙ ap (λ (n : ℕ). any_below n (connects_to (timing_in c.args.model.now) c.args.port)) c.connections.ensures
