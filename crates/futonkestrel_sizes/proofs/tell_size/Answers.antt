use Rattle.futonkestrel_sizes.specs.SizeLaws.{counts_told}
use Rattle.futonkestrel_sizes.proofs.tell_size.Goals as goal

pub returns : goal.returns
returns c = counts_told c.args.sized c.tell_refusal-number.ensures c.put_item.ensures c.put_item-2.ensures c.put_item-3.ensures c.put_item-4.ensures c.put_item-5.ensures
