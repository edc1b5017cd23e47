use Rattle.table_rules.specs.Clauses.{atom_free, atom_holds_lem}
use Rattle.table_rules.proofs.passes.Goals as goal

pub returns-then-free-j : goal.returns-then-free-j
returns-then-free-j c = atom_free _ _ c.args.part.now _ _ _ _ _ c.item_or-op.ensures c.u16_at-j.ensures c.item_or-tag.ensures c.value_at-y.ensures c.bits-n.ensures c.if-free-j.true

pub returns : goal.returns
returns c = atom_holds_lem _ _ c.args.part.now _ _ _ _ _ c.item_or-op.ensures c.u16_at-j.ensures c.item_or-tag.ensures c.value_at-y.ensures c.bits-n.ensures c.if-free-j.false _ _ c.value_in-a.ensures c.operand_value-b.ensures _ c.holds_op.ensures
