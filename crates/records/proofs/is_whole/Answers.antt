use Rattle.records.specs.Laws.{whole_unknown, whole_known}
use Rattle.records.proofs.is_whole.Goals as goal

pub returns-then-size-eq0 : goal.returns-then-size-eq0
returns-then-size-eq0 c = whole_unknown _ c.args.part.now _ _ c.item_or-kind.ensures c.record_size-size.ensures c.if-size-eq0.true

pub returns-else-size-eq0 : goal.returns-else-size-eq0
returns-else-size-eq0 c = whole_known _ c.args.part.now _ _ c.item_or-kind.ensures c.record_size-size.ensures c.if-size-eq0.false
