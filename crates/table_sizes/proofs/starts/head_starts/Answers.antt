use Rattle.std.proofs.Common.{◌∙◌}
use Rattle.table_sizes.specs.Leaves.{bit_told, head_told}
use Rattle.table_sizes.proofs.starts.head_starts.Goals as goal

pub returns : goal.returns
returns c = head_told _ c.initial.ensures (c.from.ensures ∙ bit_told _)
