use Rattle.model_enabled.specs.Counts.{most_by}
use Rattle.model_enabled.proofs.most_events.Goals as goal

pub returns : goal.returns
returns c = most_by _ c.threads.ensures c.switches.ensures c.min-n.ensures c.min-q.ensures
