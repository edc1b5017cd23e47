use mathlib.Core.Path.{sym, ◌∙◌}
use native.Mathlib.Nat.{mod-lt}
use native.Mathlib.Omega.{arith}
use Rattle.numbers.specs.MultipleLaws.{gcd_step, gcd_end}
use Rattle.numbers.proofs.gcd.Goals as goal

pub loop-y-smaller : goal.loop-y-smaller
loop-y-smaller c = mod-lt c.loop-y.x (omega arith)

pub loop-y-preserved : goal.loop-y-preserved
loop-y-preserved c = gcd_step c.loop-y.x c.loop-y.y c.loop-y-test.true ∙ c.loop-y.invariant

pub returns : goal.returns
returns c = sym (gcd_end _ _ c.loop-y-test.false) ∙ c.loop-y.invariant
