use Rattle.std.proofs.Common.{arith, rules}
use Rattle.std.proofs.lemmas.Iterator.{YieldsList-from_range, YieldsList-from_map}
use Rattle.model_words.specs.Words.{timing_in}
use Rattle.translation_sizes.specs.Items.{local_starts}
use Rattle.translation_sizes.proofs.Longest.{local_few}
use Rattle.table_sizes.specs.Leaves.{within_two}
use Rattle.table_counts.specs.Chains.{sum_fits, sum_told}
use Rattle.table_sizes.proofs.starts.locals_starts.Goals as goal

pub sum-requires-clause-fits : goal.sum-requires-clause-fits
sum-requires-clause-fits c =
    let few = c.requires.locals in
    sum_fits _ c.locals.ensures (YieldsList-from_map _ (local_starts (timing_in c.args.model.now)) (YieldsList-from_range 0 _ _ c.map.ensures.source (omega arith)) c.map.ensures.closure (λ x r q k. search rules)) _ (omega arith) (λ k. within_two (local_few _ k)) (omega arith)

pub returns : goal.returns
returns c = sum_told _ c.locals.ensures (YieldsList-from_map _ (local_starts (timing_in c.args.model.now)) (YieldsList-from_range 0 _ _ c.map.ensures.source (omega arith)) c.map.ensures.closure (λ x r q k. search rules)) c.sum.ensures.ran
