use Rattle.records.proofs.record_size.Goals as goal

pub returns-in-Model : goal.returns-in-Model
returns-in-Model c = rw c.in-Model.is c.model_size.ensures

pub returns-in-Table : goal.returns-in-Table
returns-in-Table c = rw c.in-Table.is c.table_size.ensures

pub returns-in-Script : goal.returns-in-Script
returns-in-Script c = rw c.in-Script.is c.script_size.ensures
