use Rattle.std.proofs.Common.{rules}
use Rattle.model_writer.specs.Added.{thread_added}
use Rattle.model_writer.proofs.add_thread.Goals as goal

pub returns : goal.returns
returns c = thread_added c.args.model.now _ _ _ _ c.threads-count.ensures c.put_thread.ensures c.put_count.ensures (search rules)
