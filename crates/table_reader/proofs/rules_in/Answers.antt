use Rattle.table_reader.specs.Reading.{rules_in}
use Rattle.table_reader.proofs.rules_in.Goals as goal

pub returns-in-Some : goal.returns-in-Some
unfolding rules_in
returns-in-Some c = rw c.in-Some.is c.rule_in.ensures

pub returns-in-None : goal.returns-in-None
unfolding rules_in
returns-in-None c = rw c.in-None.is
