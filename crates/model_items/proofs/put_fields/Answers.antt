use Rattle.std.proofs.Common.{◌+◌, ◌*◌, ◌≡◌, length, lt-ltb, rules}
use Rattle.model_items.specs.Stored.{numbers_put}
use Rattle.model_items.proofs.put_fields.Goals as goal

pub returns-then-i-room : goal.returns-then-i-room
returns-then-i-room g c =
    let n : length c.args.fields ≡ g.row.N = search rules in
    rw (lt-ltb _ _ c.if-i-room.true) (numbers_put c.args.model.now c.args.fields _ (c.args.from + c.args.i * g.row.N) g.row.N n c.copy_from_slice.ensures.after (c.requires c.if-i-room.true))
