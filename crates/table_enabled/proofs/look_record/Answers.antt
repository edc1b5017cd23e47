use Rattle.std.proofs.Common.{refl, ◌∙◌}
use Rattle.table_format.specs.Format.{head_of}
use Rattle.table_format.specs.Decoded.{is_head_lem}
use Rattle.table_enabled.specs.Walk.{looks_other, looks_head_disabled, looks_head}
use Rattle.table_enabled.proofs.look_record.Goals as goal

pub returns-then-kind_of-ne-TABLE_RULE : goal.returns-then-kind_of-ne-TABLE_RULE
returns-then-kind_of-ne-TABLE_RULE c = looks_other c.args.table.now _ c.args.next _ c.args.seen c.args.output.now (λ e. c.if-kind_of-ne-TABLE_RULE.true (c.kind_of.ensures ∙ e))

pub returns-then-not-is_enabled : goal.returns-then-not-is_enabled
returns-then-not-is_enabled c = looks_head_disabled c.args.table.now _ c.args.next _ c.args.seen c.args.output.now _ (is_head_lem c.args.part.now _ c.kind_of.ensures c.if-kind_of-ne-TABLE_RULE.false (head_of c.args.part.now) refl) _ c.is_enabled.ensures c.if-not-is_enabled.true

pub shape_of-output : goal.shape_of-output
shape_of-output c = c.add_enabled.ensures.1

pub returns : goal.returns
returns c = looks_head c.args.table.now _ c.args.next _ c.args.seen c.args.output.now _ (is_head_lem c.args.part.now _ c.kind_of.ensures c.if-kind_of-ne-TABLE_RULE.false _ c.head_of.ensures) _ c.is_enabled.ensures c.if-not-is_enabled.false _ _ c.add_enabled.ensures
