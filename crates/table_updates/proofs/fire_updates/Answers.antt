use Rattle.std.proofs.Common.{rules, Err}
use Rattle.table_updates.specs.Applied.{writes_from, fired_room}
use Rattle.table_semantics.specs.Runs.{values}
use Rattle.table_updates.proofs.fire_updates.Goals as goal

pub returns-in_default : goal.returns-in_default
returns-in_default c = fired_room (writes_from c.args.n (values c.args.bits.now) c.args.table.now c.args.place) c.args.bits.now (Err _) c.fire_with.new.bits 64 288 (search rules) c.in_default.ensures
