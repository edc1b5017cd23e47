use Rattle.listing_writer.proofs.put_last.Goals as goal

pub returns : goal.returns
returns c = rw (← c.last_line.ensures.0) c.put_line.ensures
