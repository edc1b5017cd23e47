use Rattle.translate_complete.specs.Assigned.{assignment_written}
use Rattle.translate_complete.proofs.updates.put_assignment.Goals as goal

pub variable_of-target-requires : goal.variable_of-target-requires
variable_of-target-requires c = c.requires.number

pub assigned-expression-requires : goal.assigned-expression-requires
assigned-expression-requires c = c.requires

pub returns : goal.returns
returns c = assignment_written _ _ _ c.variable_of-target.ensures c.assigned-expression.ensures c.put_assigned.ensures
