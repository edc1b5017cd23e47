use Rattle.model_time.specs.TimeLaws.{pass_is}
use Rattle.model_state.specs.TimeLaws.{beside_again, beside_now}
use Rattle.model_time.proofs.pass.Goals as goal

pub returns : goal.returns
returns c = (pass_is _ _ _ _ _ _ c.now_of-before.ensures c.spend_all.ensures.0 c.put_now.ensures.0, beside_again _ _ _ c.spend_all.ensures.1 (beside_now _ _ _ c.put_now.ensures.1))
