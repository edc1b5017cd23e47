use Rattle.model_words.specs.Words.{timing_in}
use Rattle.translate_waits.specs.Waits.{into_is}
use Rattle.translate_waits.proofs.connections.is_into.Goals as goal

pub returns : goal.returns
returns c = into_is (timing_in c.args.model.now) _ c.connection_at-own.ensures _ _ c.input_owner-target.ensures
