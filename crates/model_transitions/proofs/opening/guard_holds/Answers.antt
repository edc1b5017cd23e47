use Rattle.std.proofs.Common.{◌∙◌, arith, refl, rules, ℕ}
use Rattle.std.proofs.lemmas.Iterator.{YieldsList-from_range}
use Rattle.std.proofs.lemmas.Iterator.Search.{all_from_yields_List}
use Rattle.numbers.specs.RangeLaws.{all_in_range}
use Rattle.model_format.specs.Model.{atom_at}
use Rattle.model_semantics.specs.Effects.{atom_holds}
use Rattle.model_state.specs.Words.{state_in}
use Rattle.model_words.specs.Words.{behavior_in}
use Rattle.model_transitions.specs.OpenLaws.{guard_holds}
use Rattle.model_transitions.proofs.opening.guard_holds.Goals as goal

pub returns : goal.returns
unfolding guard_holds
returns c =
    all_from_yields_List (λ (j : ℕ). atom_holds (state_in c.args.state.now).ports (atom_at (behavior_in c.args.model.now) c.args.k j)) _ _ _ c.all.ensures.ran (YieldsList-from_range 0 c.args.n c.args.n refl (omega arith)) (λ x b q k. search rules)
    ∙ all_in_range c.args.n _
