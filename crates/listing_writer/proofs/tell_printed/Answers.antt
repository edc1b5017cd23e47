use Rattle.listing_writer.proofs.tell_printed.Goals as goal

pub returns : goal.returns
returns c = rw (← c.put_item.ensures, ← c.number_of.ensures, ← c.from.ensures, ← c.put_item-2.ensures, ← c.put_item-3.ensures) c.put_item-4.ensures
