use mathlib.Core.Path.{◌≡◌}
use Rattle.numbers.specs.Multiples as multiples
use Rattle.numbers.proofs.gcd.Given as goal

abbrev pub invariant-loop-y : goal.invariant-loop-y
invariant-loop-y l = multiples.gcd l.x l.y ≡ multiples.gcd l.a l.b

abbrev pub decreases-loop-y : goal.decreases-loop-y
decreases-loop-y l = l.y
