use Rattle.std.proofs.Common.{◌≡◌, false, ◌+◌, ◌≤◌, length}
use Rattle.std.specs.Slice.Iter.{chunks_exact_rest, chunks_exact_size}
use Rattle.table_semantics.specs.Runs.{values}
use Rattle.table_index.specs.Index.{listed}
use Rattle.table_enabled.specs.Walk.{Going}
use Rattle.table_enabled.proofs.look_words.Given as goal

abbrev pub invariant-loop-pair : goal.invariant-loop-pair
invariant-loop-pair l =
    let walk = l.pair-iterator in
    (goal.iterator-loop-pair).can_next walk × (goal.iterator-loop-pair).is_finite walk × (chunks_exact_size walk ≡ 2)
    × (l.seen.count + length (chunks_exact_rest walk) ≤ length l.words)
    × Going (values l.bits) (listed l.table l.words) (listed l.table (chunks_exact_rest walk)) (record { count = 0; busy = false }) l.initial.output l.seen l.output
