use Rattle.table_updates.specs.Firing.{allows_other, allows_start}
use Rattle.table_updates.proofs.allows_length.Goals as goal

pub returns-then-event-ne-START : goal.returns-then-event-ne-START
returns-then-event-ne-START c = allows_other c.args.event _ c.if-event-ne-START.true

pub returns : goal.returns
returns c = allows_start c.args.event _ c.if-event-ne-START.false
