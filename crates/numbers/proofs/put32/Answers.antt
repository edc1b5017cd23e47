use Rattle.numbers.specs.ValueLaws.{four_bytes}
use Rattle.numbers.proofs.put32.Goals as goal

pub returns : goal.returns
returns c = let x = c.args in
    four_bytes x.d.now x.at x.n _ _ c.put_after.ensures c.put_after-2.ensures _ _ c.put_after-3.ensures c.put_after-4.ensures
