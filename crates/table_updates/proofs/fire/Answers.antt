use Rattle.std.proofs.Common.{refl}
use Rattle.table_updates.specs.Firing.{fire_outside, fire_stops, fire_takes}
use Rattle.table_updates.proofs.fire.Goals as goal

pub returns-then-not-allows_length : goal.returns-then-not-allows_length
returns-then-not-allows_length c = fire_outside c.args.table.now _ c.args.event c.args.place c.args.head _ c.allows_length.ensures c.if-not-allows_length.true

pub returns-in-Ok : goal.returns-in-Ok
returns-in-Ok c = fire_takes c.args.table.now _ c.args.event c.args.place c.args.head _ c.allows_length.ensures c.if-not-allows_length.false c.args.bits.now refl _ c.in-Ok.ensures.1

pub returns-in-Err : goal.returns-in-Err
returns-in-Err c = fire_stops c.args.table.now _ c.args.event c.args.place c.args.head _ c.allows_length.ensures c.if-not-allows_length.false c.args.bits.now refl _ _ c.in-Err.ensures.1.0 c.in-Err.ensures.1.1
