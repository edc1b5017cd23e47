use Rattle.std.proofs.Common.{refl}
use Rattle.model_state.specs.StateLaws.{put_now}
use Rattle.model_state.proofs.writing.put_now.Goals as goal

pub returns : goal.returns
returns c = (put_now c.args.state.now _ _ c.requires _ c.put_item.ensures refl, c.put_item.ensures)
