use Rattle.model_words.specs.Words.{behavior_in}
use Rattle.translate_complete.specs.Complete.{open_written}
use Rattle.translate_complete.proofs.put_open.Goals as goal

pub put_guard-requires : goal.put_guard-requires
put_guard-requires c = c.requires

pub returns : goal.returns
returns c = open_written (behavior_in c.args.model.now) _ _ _ _ c.transition_at-own.ensures c.behavior_var.ensures c.put_running.ensures c.equals.ensures c.put_guard.ensures
