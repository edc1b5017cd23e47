use Rattle.std.proofs.Common.{arith, rules}
use Rattle.std.proofs.lemmas.Iterator.{YieldsList-from_range, YieldsList-from_map}
use Rattle.model_words.specs.Words.{timing_in}
use Rattle.translation_sizes.specs.Items.{thread_starts}
use Rattle.translation_sizes.proofs.Longest.{thread_few}
use Rattle.table_counts.specs.Chains.{sum_fits, sum_told}
use Rattle.table_sizes.proofs.starts.threads_starts.Goals as goal

pub sum-requires-clause-fits : goal.sum-requires-clause-fits
sum-requires-clause-fits c =
    let few = c.requires.threads in
    sum_fits _ c.threads.ensures (YieldsList-from_map _ (thread_starts (timing_in c.args.model.now)) (YieldsList-from_range 0 _ _ c.map.ensures.source (omega arith)) c.map.ensures.closure (λ x r q k. search rules)) _ (omega arith) (thread_few _) (omega arith)

pub returns : goal.returns
returns c = sum_told _ c.threads.ensures (YieldsList-from_map _ (thread_starts (timing_in c.args.model.now)) (YieldsList-from_range 0 _ _ c.map.ensures.source (omega arith)) c.map.ensures.closure (λ x r q k. search rules)) c.sum.ensures.ran
