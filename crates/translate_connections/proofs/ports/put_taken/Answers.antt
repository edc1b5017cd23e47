use Rattle.std.proofs.Common.{refl}
use Rattle.translate_waits.specs.Named.{same_variable, update_named}
use Rattle.translate_connections.proofs.ports.put_taken.Goals as goal

pub input_var-input-requires : goal.input_var-input-requires
input_var-input-requires c = c.requires

pub buffer_var-buffer-requires : goal.buffer_var-buffer-requires
buffer_var-buffer-requires c = c.requires

pub returns : goal.returns
returns c = update_named _ _ _ refl c.input_var-input.ensures (same_variable c.buffer_var-buffer.ensures) c.copy_when.ensures
