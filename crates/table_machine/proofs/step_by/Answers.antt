use Rattle.std.proofs.Common.{◌∙◌, ap, List}
use Rattle.table_format.specs.Table.{Rule}
use Rattle.table_semantics.specs.Machine.{step}
use Rattle.table_semantics.specs.Runs.{variables_of}
use Rattle.table_index.specs.Index.{step_by}
use Rattle.table_machine.specs.Running.{rules_new, step_size}
use Rattle.table_machine.proofs.step_by.Goals as goal

pub shape_of-bits : goal.shape_of-bits
unfolding step_by
shape_of-bits c = let n = c.new.ensures in
    step_size c.args.bits.now _ _ c.args.table.now c.args.index.now c.args.event (c.step_listed.ensures ∙ ap (λ (l : List Rule). step l (variables_of c.args.bits.now) c.args.event) (rules_new c.args.table.now c.args.index.now _ _ _ n.0 n.1.0 n.1.1))

pub returns : goal.returns
unfolding step_by
returns c = let n = c.new.ensures in
    c.step_listed.ensures ∙ ap (λ (l : List Rule). step l (variables_of c.args.bits.now) c.args.event) (rules_new c.args.table.now c.args.index.now _ _ _ n.0 n.1.0 n.1.1)
