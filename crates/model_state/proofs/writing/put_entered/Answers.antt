use Rattle.std.proofs.Common.{refl}
use Rattle.model_state.specs.StateLaws.{put_entered}
use Rattle.model_state.proofs.writing.put_entered.Goals as goal

pub returns : goal.returns
returns c = put_entered c.args.state.now _ _ c.requires _ c.put_item.ensures (refl)
