use Rattle.std.proofs.Common.{◌∙◌}
use Rattle.table_format.specs.Decoded.{is_initial}
use Rattle.table_machine.specs.Running.{initial_none, initial_one}
use Rattle.table_machine.proofs.begin_with.Goals as goal

pub returns-then-kind_of-ne-TABLE_START : goal.returns-then-kind_of-ne-TABLE_START
returns-then-kind_of-ne-TABLE_START c = initial_none _ _ (λ e. c.if-kind_of-ne-TABLE_START.true (c.kind_of.ensures ∙ e))

pub returns : goal.returns
returns c = c.put_initial.ensures ∙
    initial_one _ _ _ (is_initial c.args.part.now _ c.kind_of.ensures c.if-kind_of-ne-TABLE_START.false _ c.initial_of.ensures)
