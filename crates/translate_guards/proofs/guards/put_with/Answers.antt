use Rattle.translate_guards.specs.Guards.{with_written}
use Rattle.translate_guards.proofs.guards.put_with.Goals as goal

pub variable_of-left-requires : goal.variable_of-left-requires
variable_of-left-requires c = c.requires.number

pub operand_of-right-requires : goal.operand_of-right-requires
operand_of-right-requires c = c.requires.right

pub returns : goal.returns
returns c = with_written c.args.atom _ _ _ c.variable_of-left.ensures c.operand_of-right.ensures c.compare.ensures
