use Rattle.table_rules.specs.Bits.{values_store, put_length}
use Rattle.table_ticks.proofs.advance.Goals as goal

pub shape_of-bits : goal.shape_of-bits
shape_of-bits c = put_length c.args.bits.now _ 0 c.bits_of.result c.put.ensures

pub returns : goal.returns
returns c = rw (c.put.ensures, values_store, c.bits_of.ensures, c.one_later.ensures, c.value_in-clock.ensures)
