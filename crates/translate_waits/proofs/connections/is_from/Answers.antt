use Rattle.model_words.specs.Words.{timing_in}
use Rattle.translate_waits.specs.Waits.{from_is}
use Rattle.translate_waits.proofs.connections.is_from.Goals as goal

pub returns : goal.returns
returns c = from_is (timing_in c.args.model.now) _ c.connection_at-own.ensures _ _ c.output_owner-source.ensures
