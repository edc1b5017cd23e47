use Rattle.std.proofs.Common.{List, arith, ap, rules}
use Rattle.numbers.specs.declared.Value.{Value}
use Rattle.table_rules.specs.Bits.{same_values, same_all}
use Rattle.table_rules.proofs.variables_of.Goals as goal

pub loop-j-init : goal.loop-j-init
loop-j-init c = (search rules, λ k l. absurd (omega arith))

pub loop-j-preserved : goal.loop-j-preserved
loop-j-preserved c = (search rules, same_values c.loop-j.value c.args.bits _ _ c.loop-j-test.true c.loop-j.invariant.1 c.loop-j.invariant.0 _ c.value_of.ensures)

pub returns : goal.returns
returns c = ap (λ (v : List Value). record { value = v }) (same_all c.loop-j.value c.args.bits 288 _ c.loop-j.invariant.0 (search rules) c.loop-j-test.false c.loop-j.invariant.1)
