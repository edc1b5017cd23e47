use Rattle.std.proofs.Common.{rules, refl, ◌≤◌, length}
use Rattle.table_format.specs.Format.{record_to}
use Rattle.table_writer.specs.Written.{stored}
use Rattle.table_writer.specs.Wrote.{farthest}
use Rattle.table_writer.specs.WritesLaws.{writes_on}
use Rattle.table_writer.proofs.encoding.Writer.atom.Goals as goal

pub returns-then-has_room : goal.returns-then-has_room
unfolding record_to
returns-then-has_room c = record {
  wrote = stored _ c.args.self.now.at (c.has_room.ensures c.if-has_room.true) (let h : length c.args.self.now.bytes.now ≤ farthest = search rules in h) c.store_atom.ensures;
  lender = refl;
}

pub returns : goal.returns
unfolding record_to
returns c = writes_on _ _ (writes_on _ _ (writes_on _ _ c.byte.ensures c.byte-2.ensures) c.u16.ensures) c.operand.ensures
