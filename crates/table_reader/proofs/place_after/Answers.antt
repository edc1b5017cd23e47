use Rattle.std.proofs.Common.{◌^◌, arith}
use Rattle.table_reader.specs.Reading.{place_after}
use Rattle.table_reader.specs.Steps.{place_fits}
use Rattle.table_reader.proofs.place_after.Goals as goal

pub overflow_add-result : goal.overflow_add-result
overflow_add-result c = record { fits = place_fits c.args.table.now _ _ (2 ^ 64) c.part_length_at.ensures (omega arith) (omega arith) }

pub returns : goal.returns
unfolding place_after
returns c = rw c.part_length_at.ensures
