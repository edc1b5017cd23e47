use Rattle.translate_complete.specs.Complete.{running_written}
use Rattle.translate_complete.proofs.put_running.Goals as goal

pub returns : goal.returns
returns c = running_written _ _ _ c.state_var.ensures c.end_var.ensures c.equals.ensures c.same.ensures
