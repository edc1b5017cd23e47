use Rattle.table_reader.specs.Reading.{rule_in}
use Rattle.table_reader.specs.Counted.{no_rule_in}
use Rattle.table_reader.proofs.rule_in.Goals as goal

pub returns-in-Head : goal.returns-in-Head
unfolding rule_in
returns-in-Head c = rw c.in-Head.is

pub returns-in_default : goal.returns-in_default
returns-in_default c = no_rule_in _ c.in_default.not-Head
