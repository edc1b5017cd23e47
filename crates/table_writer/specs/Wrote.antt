-- Bytes written into a lent slice, one after the other. What would lie past its end is counted and not written, so that the same walk
-- tells how long a table is and writes it.
use Rattle.std.specs.Prelude.{◌≡◌, List, ℕ, ◌+◌, min, length}
use Rattle.std.proofs.lemmas.List.Edits.{sets}
use Rattle.table_format.specs.declared.Record.{Record}
use Rattle.table_format.specs.Format.{bytes_of}

-- the farthest place that a writer counts to; no slice is longer
abbrev pub farthest : ℕ
farthest = 18446744073709551615

-- the bytes bs are written at a place, and the next place is behind them
pub record Wrote (before : List ℕ) (at : ℕ) (bs : List ℕ) (after : List ℕ) (next : ℕ) : Type 0 where
  pub bytes : after ≡ sets before at bs
  pub place : next ≡ min (at + length bs) farthest

-- the records l are written
abbrev pub WroteRecords : List ℕ → ℕ → List Record → List ℕ → ℕ → Type 0
WroteRecords before at l after next = Wrote before at (bytes_of l) after next
