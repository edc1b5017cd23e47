use Rattle.std.proofs.Common.{◌∙◌}
use Rattle.translate_modes.specs.Modes.{bit_byte, active_wrote}
use Rattle.translate_modes.proofs.put_active.Goals as goal

pub returns : goal.returns
returns c = active_wrote c.set.ensures (c.from-active.ensures ∙ bit_byte _) _ _ _ _ c.active_var.ensures c.thread_at-own.ensures c.in_mode.ensures
