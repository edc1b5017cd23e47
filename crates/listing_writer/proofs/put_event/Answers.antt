use Rattle.listing_writer.proofs.put_event.Goals as goal

pub returns : goal.returns
returns c = rw (← c.event_line.ensures.0) c.put_line.ensures
