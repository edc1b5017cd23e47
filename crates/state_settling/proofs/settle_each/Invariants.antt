use Rattle.state_settling.specs.Passes.{SettledBelow}
use Rattle.state_settling.proofs.settle_each.Given as goal

abbrev pub invariant-loop-number : goal.invariant-loop-number
invariant-loop-number g l = SettledBelow (λ a b. g.F.Fn.post l.settle (a, tt) b) l.initial.part l.part l.number-index
