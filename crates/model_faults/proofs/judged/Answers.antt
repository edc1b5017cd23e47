use Rattle.model_format.specs.Reading as reading
use Rattle.model_faults.proofs.judged.Goals as goal

pub returns-then-faults : goal.returns-then-faults
unfolding reading.judged
returns-then-faults c = rw c.if-faults.true

pub returns-then-faults-2 : goal.returns-then-faults-2
unfolding reading.judged
returns-then-faults-2 c = rw (c.if-faults.false, c.if-faults-2.true)

pub returns-then-faults-3 : goal.returns-then-faults-3
unfolding reading.judged
returns-then-faults-3 c = rw (c.if-faults.false, c.if-faults-2.false, c.if-faults-3.true)

pub returns-then-faults-4 : goal.returns-then-faults-4
unfolding reading.judged
returns-then-faults-4 c = rw (c.if-faults.false, c.if-faults-2.false, c.if-faults-3.false, c.if-faults-4.true)

pub returns-then-faults-5 : goal.returns-then-faults-5
unfolding reading.judged
returns-then-faults-5 c = rw (c.if-faults.false, c.if-faults-2.false, c.if-faults-3.false, c.if-faults-4.false, c.if-faults-5.true)

pub returns-then-faults-6 : goal.returns-then-faults-6
unfolding reading.judged
returns-then-faults-6 c = rw (c.if-faults.false, c.if-faults-2.false, c.if-faults-3.false, c.if-faults-4.false, c.if-faults-5.false, c.if-faults-6.true)

pub returns-then-faults-7 : goal.returns-then-faults-7
unfolding reading.judged
returns-then-faults-7 c = rw (c.if-faults.false, c.if-faults-2.false, c.if-faults-3.false, c.if-faults-4.false, c.if-faults-5.false, c.if-faults-6.false, c.if-faults-7.true)

pub returns-then-faults-8 : goal.returns-then-faults-8
unfolding reading.judged
returns-then-faults-8 c = rw (c.if-faults.false, c.if-faults-2.false, c.if-faults-3.false, c.if-faults-4.false, c.if-faults-5.false, c.if-faults-6.false, c.if-faults-7.false, c.if-faults-8.true)

pub returns : goal.returns
unfolding reading.judged
returns c = rw (c.if-faults.false, c.if-faults-2.false, c.if-faults-3.false, c.if-faults-4.false, c.if-faults-5.false, c.if-faults-6.false, c.if-faults-7.false, c.if-faults-8.false)
