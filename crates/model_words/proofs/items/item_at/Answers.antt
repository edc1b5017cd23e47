use Rattle.std.proofs.Common.{◌+◌, ◌*◌}
use Rattle.model_words.specs.Laws.{there}
use Rattle.model_words.proofs.items.item_at.Goals as goal

pub returns-then-i-room : goal.returns-then-i-room
returns-then-i-room g c =
    there c.args.room g.T.Item.blank _ c.args.i (λ j. g.T.Item.read c.args.model.now (c.args.from + j * g.T.Item.SIZE)) c.if-i-room.true (rw (← c.SIZE.ensures) c.read.ensures)
