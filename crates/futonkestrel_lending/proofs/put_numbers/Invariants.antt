use Rattle.futonkestrel_lending.specs.Laws.{Lending}
use Rattle.futonkestrel_lending.proofs.put_numbers.Given as goal

abbrev pub invariant-loop-j : goal.invariant-loop-j
invariant-loop-j g l = Lending (goal.F-post g l.of) l.initial.lent l.lent l.j
