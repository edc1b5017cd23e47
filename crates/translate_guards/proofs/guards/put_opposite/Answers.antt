use Rattle.translate_guards.specs.Guards.{opposite_written}
use Rattle.translate_guards.proofs.guards.put_opposite.Goals as goal

pub put_with-requires : goal.put_with-requires
put_with-requires c = c.requires

pub returns : goal.returns
returns c = opposite_written _ _ c.negated_op-opposite.ensures c.put_with.ensures
