use Rattle.std.proofs.Common.{◌∙◌}
use Rattle.table_format.specs.Format.{update_of}
use Rattle.table_updates.proofs.target_of.Goals as goal

pub returns : goal.returns
unfolding update_of
returns c = c.from.ensures ∙ c.u16_at.ensures
