use Rattle.std.proofs.Common.{◌≡◌}
use Rattle.std.specs.Slice.Iter.{chunks_exact_rest, chunks_exact_size}
use Rattle.table_semantics.specs.Runs.{values}
use Rattle.table_ticks.specs.QuietListed.{QuietBy}
use Rattle.table_ticks.proofs.quiet_listed.Given as goal

abbrev pub invariant-loop-pair : goal.invariant-loop-pair
invariant-loop-pair l =
    let walk = l.pair-iterator in
    (goal.iterator-loop-pair).can_next walk × (goal.iterator-loop-pair).is_finite walk × (chunks_exact_size walk ≡ 2)
    × QuietBy l.table (values l.bits) l.limit (chunks_exact_rest walk) l.n l.words
