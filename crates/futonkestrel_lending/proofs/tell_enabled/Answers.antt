use Rattle.std.proofs.Common.{◌∙◌}
use Rattle.futonkestrel_lending.specs.ToldLaws.{two_told, mark_told}
use Rattle.futonkestrel_lending.proofs.tell_enabled.Goals as goal

pub returns : goal.returns
returns c = two_told c.args.told.now c.args.enabled c.put_item.ensures c.put_item-2.ensures (c.from.ensures ∙ mark_told _) c.number.ensures
