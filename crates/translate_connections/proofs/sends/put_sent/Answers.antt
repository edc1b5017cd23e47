use Rattle.translate_connections.specs.Items.{sent_from}
use Rattle.translate_connections.proofs.sends.put_sent.Goals as goal

pub flag_var-flag-requires : goal.flag_var-flag-requires
flag_var-flag-requires c = c.requires.0

pub buffer_var-buffer-requires : goal.buffer_var-buffer-requires
buffer_var-buffer-requires c = c.requires.1.1

pub output_var-source-requires : goal.output_var-source-requires
output_var-source-requires c = c.requires.1.0

pub returns : goal.returns
returns c = sent_from _ c.args.own c.flag_var-flag.ensures c.buffer_var-buffer.ensures c.output_var-source.ensures c.copy_when.ensures
