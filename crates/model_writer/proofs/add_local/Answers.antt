use Rattle.std.proofs.Common.{rules}
use Rattle.model_writer.specs.Added.{local_added}
use Rattle.model_writer.proofs.add_local.Goals as goal

pub returns : goal.returns
returns c = local_added c.args.model.now _ _ _ _ c.locals-count.ensures c.put_local.ensures c.put_count.ensures (search rules)
