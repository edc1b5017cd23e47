use Rattle.std.proofs.Common.{◌∙◌, ap}
use Rattle.numbers.specs.Values.{bits_of}
use Rattle.numbers.specs.declared.Value.{Value}
use Rattle.table_index.specs.Guards.{asked_op, asked_tag, asked_equal}
use Rattle.table_index.proofs.asked_in.Goals as goal

pub returns-then-op-ne-EQUALS : goal.returns-then-op-ne-EQUALS
returns-then-op-ne-EQUALS c = asked_op c.args.part.now _ c.item_or-op.ensures c.if-op-ne-EQUALS.true

pub returns-then-tag-ne-CONSTANT_TAG : goal.returns-then-tag-ne-CONSTANT_TAG
returns-then-tag-ne-CONSTANT_TAG c = asked_tag c.args.part.now _ c.item_or-op.ensures c.if-op-ne-EQUALS.false _ c.item_or-tag.ensures c.if-tag-ne-CONSTANT_TAG.true

pub returns : goal.returns
returns c = asked_equal c.args.part.now _ c.item_or-op.ensures c.if-op-ne-EQUALS.false _ c.item_or-tag.ensures c.if-tag-ne-CONSTANT_TAG.false _ _ (c.from-j.ensures ∙ c.u16_at.ensures) (c.bits-n.ensures ∙ ap (λ (v : Value). bits_of v.0) c.value_at.ensures)
