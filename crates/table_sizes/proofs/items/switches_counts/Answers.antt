use Rattle.std.proofs.Common.{◌≡◌, arith, rules, ℕ, ◌∙◌, ap}
use Rattle.model_words.specs.Words.{timing_in}
use Rattle.translation_sizes.specs.Counts.{count_below}
use Rattle.translation_sizes.specs.Items.{switch_counts}
use Rattle.table_counts.specs.Bounds.{switch_most}
use Rattle.table_sizes.proofs.items.switches_counts.Goals as goal

pub sum_counts-requires-clause-few : goal.sum_counts-requires-clause-few
sum_counts-requires-clause-few c = let few = c.requires.switches in let e = c.switches.ensures in omega arith

pub sum_counts-requires-clause-small : goal.sum_counts-requires-clause-small
sum_counts-requires-clause-small c = λ i x h k. let e : x ≡ switch_counts (timing_in c.args.model.now) i = search rules in rw e (switch_most _ c.requires i)

pub returns : goal.returns
returns c =
    c.sum_counts.ensures (switch_counts (timing_in c.args.model.now)) (λ i x h k. search rules) ∙
    ap (λ (n : ℕ). count_below n (switch_counts (timing_in c.args.model.now))) c.switches.ensures
