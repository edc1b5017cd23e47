use Rattle.futonkestrel_lending.proofs.tell_run.Goals as goal

pub returns : goal.returns
returns c = record { number = c.tell_refusal-number.ensures.number; told = rw (← c.tell_refusal-number.ensures.told, ← c.put_item.ensures) c.put_item-2.ensures }
