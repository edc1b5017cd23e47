use Rattle.model_settling.specs.Settled.{model_settled}
use Rattle.model_settling.proofs.settle_model.Goals as goal

pub returns : goal.returns
returns c = model_settled c.requires c.slice_known-1.given c.cut_threads.ensures c.cut_links.ensures c.cut_behavior.ensures
