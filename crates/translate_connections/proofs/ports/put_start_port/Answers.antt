use Rattle.std.proofs.Common.{refl}
use Rattle.model_words.specs.Words.{timing_in}
use Rattle.translate_connections.specs.Items.{start_free, into_nothing}
use Rattle.translate_connections.proofs.ports.put_start_port.Goals as goal

pub returns-in_default : goal.returns-in_default
returns-in_default c = start_free (timing_in c.args.model.now) _ refl (into_nothing _ _ c.immediate_into.ensures c.in_default.not-Some)
