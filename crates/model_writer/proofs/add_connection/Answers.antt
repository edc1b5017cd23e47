use Rattle.std.proofs.Common.{rules}
use Rattle.model_writer.specs.Added.{connection_added}
use Rattle.model_writer.proofs.add_connection.Goals as goal

pub returns : goal.returns
returns c = connection_added c.args.model.now _ _ _ _ c.connections-count.ensures c.put_connection.ensures c.put_count.ensures (search rules)
