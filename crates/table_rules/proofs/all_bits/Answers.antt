use Rattle.std.proofs.Common.{arith, sym, rules}
use Rattle.table_rules.specs.Bits.{same_bits, same_all}
use Rattle.table_rules.proofs.all_bits.Goals as goal

pub loop-j-init : goal.loop-j-init
loop-j-init c = (search rules, λ k l. absurd (omega arith))

pub loop-j-preserved : goal.loop-j-preserved
loop-j-preserved c = (search rules, same_bits c.args.s.value c.loop-j.bits _ _ c.loop-j-test.true c.loop-j.invariant.1 c.loop-j.invariant.0 c.bits_of.result c.bits_of.ensures)

pub returns : goal.returns
returns c = sym (same_all _ _ 288 _ (search rules) c.loop-j.invariant.0 c.loop-j-test.false c.loop-j.invariant.1)
