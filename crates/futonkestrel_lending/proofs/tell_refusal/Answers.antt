use Rattle.futonkestrel_lending.proofs.tell_refusal.Goals as goal

pub returns : goal.returns
returns c = record { number = c.number.ensures; told = rw (← c.put_item.ensures) c.put_item-2.ensures }
