use mathlib.Core.Path.{sym, ◌∙◌}
use native.Mathlib.Omega.{arith}
use Rattle.numbers.specs.MultipleLaws.{lcm_above, lcm_same, lcm_there, lcm_none, lcm_some, lcm_fits}
use Rattle.numbers.proofs.lcm_up_to.Goals as goal

pub returns-then-limit-a : goal.returns-then-limit-a
returns-then-limit-a c = lcm_above _ _ _ c.if-limit-a.true

pub returns-then-a-b : goal.returns-then-a-b
returns-then-a-b c = lcm_same _ _ _ c.if-limit-a.false c.if-a-b.true

pub returns-then-is_multiple : goal.returns-then-is_multiple
returns-then-is_multiple c = lcm_there _ _ _ c.if-limit-a.false (sym c.if-is_multiple.true ∙ c.is_multiple.ensures)

pub returns-then-g-eq0 : goal.returns-then-g-eq0
returns-then-g-eq0 c = lcm_none _ _ _ _ c.if-limit-a.false c.gcd-g.ensures c.if-g-eq0.true

pub overflow_mul-result : goal.overflow_mul-result
overflow_mul-result c = record { fits = lcm_fits c.args.limit c.args.a c.args.b c.gcd-g.result c.if-limit-a.false (omega arith) (omega arith) }

pub returns : goal.returns
returns c = lcm_some _ _ _ _ c.if-limit-a.false c.gcd-g.ensures
