use Rattle.std.proofs.Common.{rules}
use Rattle.model_writer.specs.Added.{transition_added}
use Rattle.model_writer.proofs.add_transition.Goals as goal

pub returns : goal.returns
returns c = transition_added c.args.model.now _ _ _ _ c.transitions-count.ensures c.put_transition.ensures c.put_count.ensures (search rules)
