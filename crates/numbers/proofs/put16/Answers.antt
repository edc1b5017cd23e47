use Rattle.numbers.specs.ValueLaws.{two_bytes}
use Rattle.numbers.proofs.put16.Goals as goal

pub returns : goal.returns
returns c = let x = c.args in
    two_bytes x.d.now x.at x.n _ _ c.put_after.ensures c.put_after-2.ensures
