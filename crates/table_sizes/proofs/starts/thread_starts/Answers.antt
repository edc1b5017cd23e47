use Rattle.std.proofs.Common.{◌∙◌}
use Rattle.table_sizes.specs.Leaves.{bit_told, thread_begun}
use Rattle.table_sizes.proofs.starts.thread_starts.Goals as goal

pub returns : goal.returns
returns c = thread_begun _ c.initial-mode.ensures _ c.thread_at-thread.ensures c.in_mode.ensures (c.from.ensures ∙ bit_told _) (c.from-2.ensures ∙ bit_told _)
