use Rattle.model_effects.specs.Events.{deadline_is}
use Rattle.model_effects.proofs.meet_deadline.Goals as goal

pub returns : goal.returns
returns c = deadline_is _ _ _ _ _ _ c.rest_code-code.ensures c.send.ensures c.put_code.ensures
