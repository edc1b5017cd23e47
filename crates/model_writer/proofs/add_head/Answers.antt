use Rattle.std.proofs.Common.{rules}
use Rattle.model_writer.specs.Added.{head_added}
use Rattle.model_writer.proofs.add_head.Goals as goal

pub returns : goal.returns
returns c = head_added c.args.model.now _ _ _ c.requires c.put_item.ensures c.put_item-2.ensures (search rules) (search rules)
