use Rattle.model_words.specs.Words.{model_in}
use Rattle.translate_starts.specs.Starts.{initial_wrote}
use Rattle.translate_starts.proofs.put_initial_values.Goals as goal

pub returns : goal.returns
returns c = initial_wrote (model_in c.args.model.now) _ c.start_in.ensures c.put_starts.ensures
