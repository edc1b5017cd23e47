use Rattle.std.proofs.Common.{rules, sym}
use Rattle.std.proofs.Math.Seq.{length-take-le}
use Rattle.translator.specs.Tables.{bytes_within}
use Rattle.make_table.proofs.make_main.Goals as goal

pub slice_bounds-write_argument-end-then-is_none : goal.slice_bounds-write_argument-end-then-is_none
slice_bounds-write_argument-end-then-is_none c = bytes_within _ _ _ _ _ c.translate-translation.ensures c.is_none.ensures c.if-is_none.true (search rules)

pub slice_bounds-write_argument-end-then-is_none-2 : goal.slice_bounds-write_argument-end-then-is_none-2
slice_bounds-write_argument-end-then-is_none-2 c = sym (length-take-le _ _ (bytes_within _ _ _ _ _ c.translate-translation.ensures c.is_none.ensures c.if-is_none.true (search rules)))
