use Rattle.std.proofs.Common.{◌≡◌}
use Rattle.std.specs.Slice.Iter.{chunks_exact_rest, chunks_exact_size}
use Rattle.table_semantics.specs.Runs.{values}
use Rattle.table_search.specs.declared.Found.TheVariants.{Nothing}
use Rattle.table_search.specs.FindListed.{FindsBy}
use Rattle.table_search.proofs.find_listed.Given as goal

abbrev pub invariant-loop-pair : goal.invariant-loop-pair
invariant-loop-pair l =
    let walk = l.pair-iterator in
    (goal.iterator-loop-pair).can_next walk × (goal.iterator-loop-pair).is_finite walk × (chunks_exact_size walk ≡ 2)
    × FindsBy l.table (values l.bits) l.event l.found (chunks_exact_rest walk) Nothing l.words
