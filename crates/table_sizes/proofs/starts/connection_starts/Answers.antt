use Rattle.std.proofs.Common.{◌∙◌}
use Rattle.table_sizes.specs.Leaves.{bit_told, connection_begun}
use Rattle.table_sizes.proofs.starts.connection_starts.Goals as goal

pub returns : goal.returns
returns c = connection_begun _ c.initial.ensures _ c.connection_at-connection.ensures c.in_mode.ensures (c.from.ensures ∙ bit_told _)
