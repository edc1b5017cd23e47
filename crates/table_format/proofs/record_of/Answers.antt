use Rattle.table_format.specs.Decoded.{record_unknown, record_cut, record_initial, record_head, record_clause, record_atom, record_update}
use Rattle.table_format.proofs.record_of.Goals as goal

pub returns-then-size-eq0 : goal.returns-then-size-eq0
returns-then-size-eq0 c = record_unknown c.args.part.now _ _ c.item_or-kind.ensures c.record_size-size.ensures c.if-size-eq0.true

pub returns-then-part-size : goal.returns-then-part-size
returns-then-part-size c = record_cut c.args.part.now _ _ c.item_or-kind.ensures c.record_size-size.ensures c.if-size-eq0.false c.if-part-size.true

pub returns-in-32 : goal.returns-in-32
returns-in-32 c = record_initial c.args.part.now _ _ c.item_or-kind.ensures c.record_size-size.ensures c.if-size-eq0.false c.if-part-size.false _ c.in-32.is c.initial_of.ensures

pub returns-in-33 : goal.returns-in-33
returns-in-33 c = record_head c.args.part.now _ _ c.item_or-kind.ensures c.record_size-size.ensures c.if-size-eq0.false c.if-part-size.false _ c.in-33.is c.head_of.ensures

pub returns-in-34 : goal.returns-in-34
returns-in-34 c = record_clause c.args.part.now _ _ c.item_or-kind.ensures c.record_size-size.ensures c.if-size-eq0.false c.if-part-size.false c.in-34.is

pub returns-in-35 : goal.returns-in-35
returns-in-35 c = record_atom c.args.part.now _ _ c.item_or-kind.ensures c.record_size-size.ensures c.if-size-eq0.false c.if-part-size.false _ c.in-35.is c.atom_of.ensures

pub returns-in_default : goal.returns-in_default
returns-in_default c = let r = c.in_default.in_default-own.rest in
    record_update c.args.part.now _ _ c.item_or-kind.ensures c.record_size-size.ensures c.if-size-eq0.false c.if-part-size.false _
    r.0.0.0.1 r.0.0.1 r.0.1 r.1 c.update_of.ensures
