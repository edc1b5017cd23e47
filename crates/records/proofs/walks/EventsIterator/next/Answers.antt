use Rattle.std.proofs.Common.{arith}
use Rattle.records.specs.Walk.{next_listed}
use Rattle.records.proofs.walks.EventsIterator.next.Goals as goal

pub returns-clause-goes : goal.returns-clause-goes
returns-clause-goes c =
    let n = next_listed _ _ c.event_at-listed.ensures c.if-self.false in
    record { on = λ f. (tt, tt, omega arith); keeps = tt; rests = λ f. tt }
