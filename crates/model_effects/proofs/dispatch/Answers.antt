use Rattle.model_effects.specs.Events.{dispatch_is}
use Rattle.model_effects.proofs.dispatch.Goals as goal

pub returns : goal.returns
returns c = dispatch_is _ _ _ _ _ _ _ c.now_of-now.ensures c.freeze.ensures c.put_code.ensures c.put_dispatch_time.ensures
