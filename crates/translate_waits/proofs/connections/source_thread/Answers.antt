use Rattle.model_words.specs.Words.{timing_in}
use Rattle.translate_waits.specs.Waits.{source_is}
use Rattle.translate_waits.proofs.connections.source_thread.Goals as goal

pub returns : goal.returns
returns c = source_is (timing_in c.args.model.now) _ c.connection_at-own.ensures c.output_owner.ensures
