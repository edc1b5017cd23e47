use Rattle.std.proofs.Common.{arith}
use borrow.Author.Rules.{rules}
use Rattle.records.specs.Walk.{next_place}
use Rattle.records.proofs.walks.PartsIterator.next.Goals as goal

pub overflow_add-end : goal.overflow_add-end
overflow_add-end c = let n = next_place _ _ _ _ c.if-self.false c.part_length_at.ensures in search rules

pub slice_bounds-result-end : goal.slice_bounds-result-end
slice_bounds-result-end c = let n = next_place _ _ _ _ c.if-self.false c.part_length_at.ensures in omega arith

pub returns-clause-goes : goal.returns-clause-goes
returns-clause-goes c =
    let n = next_place _ _ _ _ c.if-self.false c.part_length_at.ensures in
    record { on = λ f. (tt, tt, omega arith); keeps = tt; rests = λ f. tt }
