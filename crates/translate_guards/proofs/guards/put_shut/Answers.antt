use Rattle.translate_guards.specs.Guards.{shut_written}
use Rattle.translate_guards.proofs.guards.put_shut.Goals as goal

pub put_negated-requires : goal.put_negated-requires
put_negated-requires c = c.requires

pub returns : goal.returns
returns c = shut_written _ _ _ _ c.behavior_var.ensures c.clause.ensures c.compared.ensures c.put_negated.ensures
