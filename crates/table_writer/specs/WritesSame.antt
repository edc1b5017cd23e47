-- What is written of one operand is what would be written of another that has its bytes.
use Rattle.std.specs.Prelude.{[], ◌∷◌, ℕ}
use Rattle.records.specs.declared.Operand.{Operand}
use Rattle.table_format.specs.Format.{record_to, bytes_of}
use Rattle.table_format.specs.Table.{atoms_to, clauses_to, updates_to}
use Rattle.table_writer.specs.SameBytes.{SameBytes}
use Rattle.table_writer.specs.Writes.{WritesAtoms, WritesClauses, WritesUpdates}
use Rattle.table_writer.specs.declared.encoding.Writer.{Writer}

module _ {u v : Writer} {o p : Operand} (s : SameBytes o p) where
  pub writes_compared : (op j : ℕ) → WritesAtoms u (record { op = op; variable = j; right = o } ∷ []) v → WritesAtoms u (record { op = op; variable = j; right = p } ∷ []) v
  unfolding record_to bytes_of atoms_to
  writes_compared op j x = rw (s.tag, s.bits) at x

  pub writes_condition : (op j : ℕ) → WritesClauses u ((record { op = op; variable = j; right = o } ∷ []) ∷ []) v → WritesClauses u ((record { op = op; variable = j; right = p } ∷ []) ∷ []) v
  unfolding record_to bytes_of clauses_to atoms_to
  writes_condition op j x = rw (s.tag, s.bits) at x

  pub writes_updated : {x y : Operand} (c w t op : ℕ) → SameBytes x y → WritesUpdates u (record { condition = c; wanted = w; target = t; op = op; first = o; second = x } ∷ []) v →
      WritesUpdates u (record { condition = c; wanted = w; target = t; op = op; first = p; second = y } ∷ []) v
  unfolding record_to bytes_of updates_to
  writes_updated c w t op r x = rw (s.tag, s.bits, r.tag, r.bits) at x
