use Rattle.std.proofs.Common.{rules}
use Rattle.model_writer.specs.Added.{input_added}
use Rattle.model_writer.proofs.add_input.Goals as goal

pub returns : goal.returns
returns c = input_added c.args.model.now _ _ _ _ c.inputs-count.ensures c.put_input.ensures c.put_count.ensures (search rules)
