use Rattle.futonkestrel.proofs.fk_read_model.Goals as goal

pub returns : goal.returns
returns c = rw (← c.judge_model-f.ensures) c.tell_refusal.ensures
