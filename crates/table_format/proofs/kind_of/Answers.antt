use Rattle.table_format.specs.Decoded.{kind_unknown, kind_cut, kind_whole}
use Rattle.table_format.proofs.kind_of.Goals as goal

pub returns-then-size-eq0 : goal.returns-then-size-eq0
returns-then-size-eq0 c = kind_unknown c.args.part.now _ _ c.item_or-kind.ensures c.record_size-size.ensures c.if-size-eq0.true

pub returns-then-part-size : goal.returns-then-part-size
returns-then-part-size c = kind_cut c.args.part.now _ _ c.item_or-kind.ensures c.record_size-size.ensures c.if-size-eq0.false c.if-part-size.true

pub returns : goal.returns
returns c = kind_whole c.args.part.now _ _ c.item_or-kind.ensures c.record_size-size.ensures c.if-size-eq0.false c.if-part-size.false
