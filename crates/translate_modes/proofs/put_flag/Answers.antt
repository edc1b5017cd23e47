use Rattle.std.proofs.Common.{◌∙◌}
use Rattle.translate_modes.specs.Modes.{bit_byte, flag_wrote}
use Rattle.translate_modes.proofs.put_flag.Goals as goal

pub flag_var-requires : goal.flag_var-requires
flag_var-requires c = c.requires

pub returns : goal.returns
returns c = flag_wrote c.set.ensures (c.from-live.ensures ∙ bit_byte _) _ _ _ _ _ c.flag_var.ensures c.connection_at-own.ensures c.in_both.ensures
