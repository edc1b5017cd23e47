use Rattle.std.proofs.Common.{arith, length, length-set}
use Rattle.table_index.specs.IndexLaws.{room_within, room_short, one_listed, one_full, one_past}
use Rattle.table_index.proofs.put_rule.Goals as goal

pub overflow_mul-index : goal.overflow_mul-index
overflow_mul-index c = let s = room_short c.args.table.now _ _ _ c.requires.1 c.if-rules-room.true in let h = c.requires.0.within in record { fits = omega arith }

pub key_at-requires : goal.key_at-requires
key_at-requires c = c.requires.0

pub overflow_add-index : goal.overflow_add-index
overflow_add-index c = let s = room_short c.args.table.now _ _ _ c.requires.1 c.if-rules-room.true in let h = c.requires.0.within in let k = c.key_at.ensures in record { fits = omega arith }

pub overflow_mul-index-then-rules-room : goal.overflow_mul-index-then-rules-room
overflow_mul-index-then-rules-room c = let w = room_within c.args.table.now (length c.args.index.now) in let e = c.requires.1 in let h = c.if-rules-room.true in record { fits = omega arith }

pub overflow_add-index-then-rules-room : goal.overflow_add-index-then-rules-room
overflow_add-index-then-rules-room c = let w = room_within c.args.table.now (length c.args.index.now) in let e = c.requires.1 in let h = c.if-rules-room.true in record { fits = omega arith }

pub offset_bounds-index-rules : goal.offset_bounds-index-rules
offset_bounds-index-rules c = let w = room_within c.args.table.now (length c.args.index.now) in let e = c.requires.1 in let h = c.if-rules-room.true in record { fits = omega arith }

pub bounds-index-rules : goal.bounds-index-rules
bounds-index-rules c = let w = room_within c.args.table.now (length c.args.index.now) in let e = c.requires.1 in let h = c.if-rules-room.true in omega arith

pub overflow_add-at : goal.overflow_add-at
overflow_add-at c = let h = c.requires.0.within in record { fits = omega arith }

pub overflow_mul-index-then-rules-room-2 : goal.overflow_mul-index-then-rules-room-2
overflow_mul-index-then-rules-room-2 c = let w = room_within c.args.table.now (length c.args.index.now) in let e = c.requires.1 in let h = c.if-rules-room.true in record { fits = omega arith }

pub overflow_add-index-then-rules-room-2 : goal.overflow_add-index-then-rules-room-2
overflow_add-index-then-rules-room-2 c = let w = room_within c.args.table.now (length c.args.index.now) in let e = c.requires.1 in let h = c.if-rules-room.true in record { fits = omega arith }

pub overflow_add-index-then-rules-room-3 : goal.overflow_add-index-then-rules-room-3
overflow_add-index-then-rules-room-3 c = let w = room_within c.args.table.now (length c.args.index.now) in let e = c.requires.1 in let h = c.if-rules-room.true in record { fits = omega arith }

pub offset_bounds-index-rules-then-rules-room : goal.offset_bounds-index-rules-then-rules-room
offset_bounds-index-rules-then-rules-room c = let w = room_within c.args.table.now (length c.args.index.now) in let e = c.requires.1 in let h = c.if-rules-room.true in record { fits = omega arith }

pub bounds-index-rules-then-rules-room : goal.bounds-index-rules-then-rules-room
bounds-index-rules-then-rules-room c = let w = room_within c.args.table.now (length c.args.index.now) in let e = c.requires.1 in let h = c.if-rules-room.true in rw (length-set c.args.index.now) (omega arith)

pub returns-then-rules-room : goal.returns-then-rules-room
returns-then-rules-room c = one_listed _ _ c.requires.0 _ _ _ _ c.if-rules-room.true _ _ (rw c.key_at.ensures) c.guard_of.ensures

pub returns-then-rules-room-2 : goal.returns-then-rules-room-2
returns-then-rules-room-2 c = one_full _ _ c.requires.0 _ _ _ _ c.if-rules-room-2.true

pub returns : goal.returns
returns c = one_past _ _ c.requires.0 _ _ _ _ c.if-rules-room.false c.if-rules-room-2.false
