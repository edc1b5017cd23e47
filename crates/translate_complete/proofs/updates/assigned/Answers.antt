use Rattle.translate_complete.specs.Assigned.{assigned_copy, assigned_both}
use Rattle.translate_complete.proofs.updates.assigned.Goals as goal

pub operand_of-first-requires : goal.operand_of-first-requires
operand_of-first-requires c = c.requires.first

pub returns-then-assignment-eq-COPY : goal.returns-then-assignment-eq-COPY
returns-then-assignment-eq-COPY c = assigned_copy _ _ _ c.operand_of-first.ensures c.if-assignment-eq-COPY.true c.unused.ensures

pub operand_of-requires : goal.operand_of-requires
operand_of-requires c = c.requires.second

pub returns : goal.returns
returns c = assigned_both _ _ _ c.operand_of-first.ensures c.if-assignment-eq-COPY.false c.operand_of.ensures
