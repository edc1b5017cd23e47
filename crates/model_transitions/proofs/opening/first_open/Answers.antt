use Rattle.std.proofs.Common.{arith, refl, rules}
use Rattle.std.proofs.lemmas.Iterator.{YieldsList-from_range}
use Rattle.std.proofs.lemmas.Iterator.Search.{find_from_yields_List}
use Rattle.model_state.specs.Words.{state_in}
use Rattle.model_words.specs.Words.{behavior_in}
use Rattle.model_transitions.specs.OpenLaws.{is_open_from, first_by_find}
use Rattle.model_transitions.proofs.opening.first_open.Goals as goal

pub returns : goal.returns
returns c =
    let n = c.looked_at.result in
    let found = find_from_yields_List (is_open_from (behavior_in c.args.model.now) (state_in c.args.state.now).ports c.behavior_of-from.result c.args.t) _ _ _ c.find-open.ensures.ran (YieldsList-from_range 0 n n refl (omega arith)) (λ x b q k. search rules) in
    first_by_find _ _ _ _ _ c.behavior_of-from.ensures c.looked_at.ensures _ found _ c.transitions.ensures _ c.unwrap_or.ensures
