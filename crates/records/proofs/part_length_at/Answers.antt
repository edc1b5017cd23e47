use mathlib.Core.Path.{◌∙◌}
use Rattle.records.specs.Laws.{length_at, length_past}
use Rattle.records.proofs.part_length_at.Goals as goal

pub returns-then-at-bytes : goal.returns-then-at-bytes
returns-then-at-bytes c = c.part_length.ensures ∙ length_at _ c.args.bytes.now _ c.if-at-bytes.true

pub returns-else-at-bytes : goal.returns-else-at-bytes
returns-else-at-bytes c = length_past _ c.args.bytes.now _ c.if-at-bytes.false
