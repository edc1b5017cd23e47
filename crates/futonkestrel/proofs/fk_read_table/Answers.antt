use Rattle.futonkestrel.proofs.fk_read_table.Goals as goal

pub returns : goal.returns
returns c = rw (← c.read_table-f.ensures) c.tell_refusal.ensures
