use Rattle.std.proofs.Common.{◌≡◌, arith, length, rules}
use Rattle.listing_writer.specs.Places.{text_part}
use Rattle.listing_writer.proofs.put_line.Goals as goal

pub slice_bounds-put_text-end : goal.slice_bounds-put_text-end
slice_bounds-put_text-end c = let h : length c.args.line.bytes ≡ 96 = search rules in omega arith

pub returns : goal.returns
returns c = let h : length c.args.line.bytes ≡ 96 = search rules in rw (← text_part c.args.line h) (rw h at c.put_text.ensures)
