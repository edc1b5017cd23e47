use Rattle.translate_complete.specs.Assigned.{copied_output}
use Rattle.translate_complete.proofs.updates.copied_output.Goals as goal

pub returns : goal.returns
returns c = copied_output _ _ _ _ c.output_var.ensures c.variable.ensures c.unused.ensures
