use Rattle.std.proofs.Common.{arith}
use Rattle.enabled.specs.Enabled.{offer_by}
use Rattle.table_offers.specs.Inserted.{place_found, inserted_by}
use Rattle.table_offers.proofs.insert.Goals as goal

pub overflow_mul-at : goal.overflow_mul-at
overflow_mul-at c = let w = place_found c.args.output.now _ c.args.count _ c.place_in-at.ensures in record { fits = omega arith }

pub make_room-requires : goal.make_room-requires
make_room-requires c = let w = place_found c.args.output.now _ c.args.count _ c.place_in-at.ensures in (omega arith, omega arith)

pub overflow_add-at : goal.overflow_add-at
overflow_add-at c = let w = place_found c.args.output.now _ c.args.count _ c.place_in-at.ensures in record { fits = omega arith }

pub overflow_add-at-2 : goal.overflow_add-at-2
overflow_add-at-2 c = let w = place_found c.args.output.now _ c.args.count _ c.place_in-at.ensures in record { fits = omega arith }

pub overflow_add-at-3 : goal.overflow_add-at-3
overflow_add-at-3 c = let w = place_found c.args.output.now _ c.args.count _ c.place_in-at.ensures in record { fits = omega arith }

pub returns : goal.returns
returns c = inserted_by c.args.output.now _ _ _ _ _ c.args.count (offer_by c.args.head) _ _ _ _ _ _ (omega arith) c.place_in-at.ensures c.make_room.ensures c.from-kind_word.ensures c.from-id_word.ensures c.length_in.ensures c.length_in-2.ensures c.put_item.ensures c.put_item-2.ensures c.put_item-3.ensures c.put_item-4.ensures
