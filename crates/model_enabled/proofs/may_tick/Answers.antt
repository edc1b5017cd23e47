use Rattle.model_enabled.specs.Counts.{tick_by}
use Rattle.model_enabled.proofs.may_tick.Goals as goal

pub returns : goal.returns
returns c = tick_by _ _ c.now_of-now.ensures c.is_busy.ensures
