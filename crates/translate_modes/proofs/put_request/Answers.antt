use Rattle.translate_modes.specs.Modes.{request_wrote}
use Rattle.translate_modes.proofs.put_request.Goals as goal

pub returns : goal.returns
returns c = request_wrote _ _ _ c.switch_at-own.ensures c.put_granted.ensures c.put_ignored.ensures
