use Rattle.model_words.specs.Words.{timing_in}
use Rattle.translate_complete.specs.Complete.{ends_written}
use Rattle.translate_complete.proofs.put_ends.Goals as goal

pub returns : goal.returns
returns c = ends_written _ _ _ c.state_var.ensures c.end_var.ensures (timing_in c.args.model.now) c.set.ensures c.set-2.ensures c.set-3.ensures
