-- The records of a table, one after the other.
use Rattle.std.specs.Prelude.{◌≡◌, List, [], ◌∷◌, ℕ, ◌+◌, ◌-◌, ◌<◌, ◌≤◌, length, take, drop}
use Rattle.std.proofs.Common.{refl, sym, ◌∙◌, ap, arith}
use Rattle.records.specs.declared.Notation.TheVariants as notations
use Rattle.records.specs.Format.{part_length_at}
use Rattle.records.specs.declared.walks.Part.{Part}
use Rattle.records.specs.declared.walks.Parts.{Parts}
use Rattle.records.specs.Walk.{parts_at, parts_end, slice_part}
use Rattle.records.specs.Walks.{IsPartAt}
use Rattle.table_format.specs.declared.Record.{Record}
use Rattle.table_format.specs.Format.{record_of, records_of, records}

-- ---- the records that are left at a place: m is the length of the part at p, x its record; the code lends the bytes p up to p + m
pub records_end : (s : List ℕ) (p : ℕ) → length s ≤ p → records (drop p s) ≡ []
unfolding records_of
records_end s p h = rw (parts_end notations.Table s p h)

module _ (s : List ℕ) (p m : ℕ) (x : Record) (h : p < length s) (e : m ≡ part_length_at notations.Table s p) (f : x ≡ record_of (take (p + m - p) (drop p s))) where
  pub record_lent : x ≡ record_of (take m (drop p s))
  record_lent = let q : p + m - p ≡ m = omega arith in rw q at f

  pub records_at : records (drop p s) ≡ x ∷ records (drop (p + m) s)
  unfolding records_of
  records_at = rw (parts_at notations.Table s p m h e, ← record_lent)

-- ---- the part of a table that a step of a walk gives at a place, and the place where the walk goes on
pub record IsTablePart (s : List ℕ) (at : ℕ) (p : Part) (next : ℕ) : Type 0 where
  pub within : at < length s
  pub start : p.start ≡ at
  pub end : p.end ≡ at + part_length_at notations.Table s at
  pub goes_on : next ≡ at + part_length_at notations.Table s at
  pub bytes : p.bytes.now ≡ take (part_length_at notations.Table s at) (drop at s)
  pub record_at : record_of p.bytes.now ≡ record_of (take (at + part_length_at notations.Table s at - at) (drop at s))

pub table_part : (s : List ℕ) (w v : Parts) (p : Part) → w.notation ≡ notations.Table → w.input.now ≡ s → IsPartAt w p v → IsTablePart s w.at p v.at
table_part s w v p e f g =
    let n : part_length_at w.notation w.input.now w.at ≡ part_length_at notations.Table s w.at = rw (e, f) in
    record {
      within = rw f at g.within;
      start = g.start;
      end = rw n at g.end;
      goes_on = g.next ∙ rw n at g.end;
      bytes = rw (n, f) at g.bytes;
      record_at = ap record_of (g.bytes ∙ rw (n, f) (sym (slice_part s w.at (part_length_at notations.Table s w.at))));
    }

-- so its record is the first of those that are left
pub records_step : (s : List ℕ) (at : ℕ) (p : Part) (next : ℕ) → IsTablePart s at p next → records (drop at s) ≡ record_of p.bytes.now ∷ records (drop next s)
records_step s at p next w = rw w.goes_on (records_at s at (part_length_at notations.Table s at) (record_of p.bytes.now) w.within refl w.record_at)
