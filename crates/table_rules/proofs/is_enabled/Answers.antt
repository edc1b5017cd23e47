use Rattle.std.proofs.Common.{◌∙◌}
use Rattle.table_rules.specs.Clauses.{all_hold_lem}
use Rattle.table_rules.proofs.is_enabled.Goals as goal

pub returns : goal.returns
returns c = c.all_pass.ensures ∙ all_hold_lem _ _
