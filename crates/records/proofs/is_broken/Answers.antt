use Rattle.records.specs.Events.{is_broken}
use Rattle.records.proofs.is_broken.Goals as goal

pub returns : goal.returns
unfolding is_broken
returns c = rw c.record_size-size.ensures
