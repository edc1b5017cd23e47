use Rattle.std.proofs.Common.{rules}
use Rattle.model_writer.specs.Added.{output_added}
use Rattle.model_writer.proofs.add_output.Goals as goal

pub returns : goal.returns
returns c = output_added c.args.model.now _ _ _ _ c.outputs-count.ensures c.put_output.ensures c.put_count.ensures (search rules)
