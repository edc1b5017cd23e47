use Rattle.records.specs.Refusals.{part_of}
use Rattle.records.proofs.part_of.Goals as goal

pub returns-in-Model : goal.returns-in-Model
unfolding part_of
returns-in-Model c = rw c.in-Model.is c.part_between.ensures

pub returns-in-Script : goal.returns-in-Script
unfolding part_of
returns-in-Script c = rw c.in-Script.is c.part_between-in-Script.ensures
