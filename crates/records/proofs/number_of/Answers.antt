use Rattle.records.specs.Refusals.{number_of}
use Rattle.records.proofs.number_of.Goals as goal

pub returns-in-None : goal.returns-in-None
unfolding number_of
returns-in-None c = rw c.in-None.is

pub returns-in-CutRecord : goal.returns-in-CutRecord
unfolding number_of
returns-in-CutRecord c = rw c.in-CutRecord.is

pub returns-in-WrongKind : goal.returns-in-WrongKind
unfolding number_of
returns-in-WrongKind c = rw c.in-WrongKind.is

pub returns-in-TooMany : goal.returns-in-TooMany
unfolding number_of
returns-in-TooMany c = rw c.in-TooMany.is

pub returns-in-WrongField : goal.returns-in-WrongField
unfolding number_of
returns-in-WrongField c = rw c.in-WrongField.is

pub returns-in-OtherThread : goal.returns-in-OtherThread
unfolding number_of
returns-in-OtherThread c = rw c.in-OtherThread.is

pub returns-in-SetTwice : goal.returns-in-SetTwice
unfolding number_of
returns-in-SetTwice c = rw c.in-SetTwice.is

pub returns-in-LongHyperperiod : goal.returns-in-LongHyperperiod
unfolding number_of
returns-in-LongHyperperiod c = rw c.in-LongHyperperiod.is

pub returns-in-ShortOutput : goal.returns-in-ShortOutput
unfolding number_of
returns-in-ShortOutput c = rw c.in-ShortOutput.is

pub returns-in-BrokenEvent : goal.returns-in-BrokenEvent
unfolding number_of
returns-in-BrokenEvent c = rw c.in-BrokenEvent.is

pub returns-in-NotEnabled : goal.returns-in-NotEnabled
unfolding number_of
returns-in-NotEnabled c = rw c.in-NotEnabled.is

pub returns-in-LastClock : goal.returns-in-LastClock
unfolding number_of
returns-in-LastClock c = rw c.in-LastClock.is

pub returns-in-ConflictingRules : goal.returns-in-ConflictingRules
unfolding number_of
returns-in-ConflictingRules c = rw c.in-ConflictingRules.is

pub returns-in-InconsistentUpdates : goal.returns-in-InconsistentUpdates
unfolding number_of
returns-in-InconsistentUpdates c = rw c.in-InconsistentUpdates.is

pub returns-in-NamesNothing : goal.returns-in-NamesNothing
unfolding number_of
returns-in-NamesNothing c = rw c.in-NamesNothing.is

pub returns-in-FaultyTime : goal.returns-in-FaultyTime
unfolding number_of
returns-in-FaultyTime c = rw c.in-FaultyTime.is
