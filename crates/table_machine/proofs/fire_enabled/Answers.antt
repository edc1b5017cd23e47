use Rattle.std.proofs.Common.{◌∙◌}
use Rattle.table_semantics.specs.Runs.{variables_of}
use Rattle.table_machine.specs.Running.{fire_none, fire_one, fire_several, fire_size}
use Rattle.table_machine.proofs.fire_enabled.Goals as goal

pub returns-in-Nothing : goal.returns-in-Nothing
returns-in-Nothing c = fire_none c.args.all.table.now (variables_of c.args.bits.now) c.args.event c.find-found.result _ c.find-found.ensures c.in-Nothing.is

pub shape_of-bits-in-One : goal.shape_of-bits-in-One
shape_of-bits-in-One c = fire_size c.args.bits.now _ _ c.args.event _ c.fire.ensures

pub returns-in-One : goal.returns-in-One
returns-in-One c = c.fire.ensures ∙ fire_one c.args.all.table.now (variables_of c.args.bits.now) c.args.event c.find-found.result _ c.find-found.ensures _ _ c.in-One.is

pub returns-in-Several : goal.returns-in-Several
returns-in-Several c = fire_several c.args.all.table.now (variables_of c.args.bits.now) c.args.event c.find-found.result _ c.find-found.ensures c.in-Several.is
