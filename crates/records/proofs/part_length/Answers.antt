use Rattle.records.specs.Laws.{part_unknown, part_within}
use Rattle.records.proofs.part_length.Goals as goal

pub returns-then-size-eq0 : goal.returns-then-size-eq0
returns-then-size-eq0 c = part_unknown _ _ _ _ c.record_size-size.ensures c.if-size-eq0.true

pub returns-else-size-eq0 : goal.returns-else-size-eq0
returns-else-size-eq0 c = part_within _ _ _ _ c.record_size-size.ensures c.if-size-eq0.false _ c.min.ensures
