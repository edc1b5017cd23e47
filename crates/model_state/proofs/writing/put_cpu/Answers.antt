use Rattle.std.proofs.Common.{arith}
use Rattle.model_state.specs.StateLaws.{put_cpu, byte_back}
use Rattle.model_state.proofs.writing.put_cpu.Goals as goal

pub returns : goal.returns
returns c = put_cpu c.args.state.now _ _ c.requires _ c.put_item.ensures (byte_back _ _ c.from.ensures (omega (arith, c.ranges)))
