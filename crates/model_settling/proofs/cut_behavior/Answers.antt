use Rattle.model_settling.specs.Settled.{behavior_cut}
use Rattle.model_settling.proofs.cut_behavior.Goals as goal

pub returns : goal.returns
returns c = behavior_cut c.cut_items.ensures c.cut_items-2.ensures c.cut_items-3.ensures
