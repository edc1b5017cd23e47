use Rattle.std.proofs.Common.{◌∙◌}
use Rattle.table_offers.specs.Inserted.{moved_copy}
use Rattle.table_offers.proofs.make_room.Goals as goal

pub returns : goal.returns
returns c = c.copy_within.ensures.after ∙ moved_copy c.args.output.now c.args.from c.args.end c.requires.0 c.requires.1
