use Rattle.model_words.specs.Words.{behavior_in}
use Rattle.translate_complete.specs.Complete.{default_clauses_lem}
use Rattle.translate_complete.proofs.put_default_clauses.Goals as goal

pub put_otherwise-requires : goal.put_otherwise-requires
put_otherwise-requires c = c.requires

pub returns : goal.returns
returns c = default_clauses_lem _ (behavior_in c.args.model.now) c.put_running.ensures c.put_otherwise.ensures
