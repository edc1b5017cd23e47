-- A walk from the start passes exactly the table's records.
use Rattle.std.specs.Prelude.{◌≡◌, refl, List, [], ◌∷◌, ℕ, zero, suc, ◌+◌, ◌<◌, ◌≤◌, length, drop}
use Rattle.std.proofs.Common.{sym, arith}
use Rattle.std.proofs.Math.Decide.{dec_lt}
use Rattle.records.specs.declared.Notation.TheVariants as notations
use Rattle.records.specs.Format.{part_length_at, parts}
use Rattle.records.specs.Walk.{parts_at, parts_end}
use Rattle.table_format.specs.declared.Record.{Record}
use Rattle.table_format.specs.Format.{record_of, records_of, records}
use Rattle.table_reader.specs.Reading.{part_at, place_after, walk}
use Rattle.table_reader.specs.Steps.{place_within, found_within, found_past}

-- ---- the records from p on
abbrev pub left : List ℕ → ℕ → List Record
left s p = records_of (parts notations.Table (drop p s))

pub left_end : (s : List ℕ) (p : ℕ) → length s ≤ p → left s p ≡ []
unfolding records_of
left_end s p h = rw (parts_end notations.Table s p h)

pub left_on : (s : List ℕ) (p : ℕ) → p < length s → left s p ≡ record_of (part_at s p) ∷ left s (place_after s p)
unfolding records_of part_at place_after
left_on s p h = rw (parts_at notations.Table s p (part_length_at notations.Table s p) h refl)

walk_left : (n : ℕ) (s : List ℕ) (p : ℕ) → length s ≤ p + n → walk n s p ≡ left s p
unfolding walk
walk_left zero s p h = sym (left_end s p (omega arith))
walk_left (suc n) s p h = go (walk_left n s (place_after s p)) (dec_lt p (length s))
  where
    go : (length s ≤ place_after s p + n → walk n s (place_after s p) ≡ left s (place_after s p)) → Dec (p < length s) → walk (suc n) s p ≡ left s p
    go f (yes l) =
        let m = place_within s p (place_after s p) refl l in
        rw (← found_within s p _ l refl, left_on s p l, f (omega arith))
    go f (no l) = rw (← found_past s p (omega arith), left_end s p (omega arith))

-- "A reader walks the table one record at a time"
pub walk_records : (s : List ℕ) → walk (length s) s 0 ≡ records s
walk_records s = walk_left (length s) s 0 (omega arith)
