-- One step: the place after a place, the part and the record there.
use Rattle.std.specs.Prelude.{Some, None, ◌≡◌, List, ℕ, ◌+◌, ◌-◌, ◌<◌, ◌≤◌, length, take, drop}
use Rattle.std.proofs.Common.{refl, ap, drop_of_length-le, lt-ltb, le-ltb, arith}
use Rattle.std.proofs.Math.Decide.{dec_lt}
use Rattle.std.proofs.Math.Seq.{take-nil}
use Rattle.records.specs.declared.Notation.TheVariants as notations
use Rattle.records.specs.Format.{part_length_at}
use Rattle.records.specs.Laws.{length_past}
use Rattle.records.specs.Walk.{next_place, slice_part}
use Rattle.table_format.specs.declared.Record.{Record}
use Rattle.table_format.specs.Format.{record_of}
use Rattle.table_reader.specs.declared.Step.{Step}
use Rattle.table_reader.specs.Reading.{part_at, found_at, place_after, step_at}

-- ---- n is the place after p
module _ (s : List ℕ) (p n : ℕ) (e : n ≡ place_after s p) (h : p < length s) where
  pub place_within : (p < n) × (n ≤ length s)
  unfolding place_after
  place_within =
      let b = next_place notations.Table s p (part_length_at notations.Table s p) h refl in
      (omega arith, omega arith)

  pub part_within : take (n - p) (drop p s) ≡ part_at s p
  unfolding place_after part_at
  part_within = rw e (slice_part s p (part_length_at notations.Table s p))

-- the sum fits: past the end nothing is added
pub place_fits : (s : List ℕ) (p m b : ℕ) → m ≡ part_length_at notations.Table s p → p < b → length s < b → p + m < b
place_fits s p m b e h k = go (dec_lt p (length s))
  where
    go : Dec (p < length s) → p + m < b
    go (yes l) = let n = next_place notations.Table s p m l e in omega arith
    go (no l) = let z = length_past notations.Table s p (omega arith) in omega arith

pub part_past : (s : List ℕ) (p : ℕ) → length s ≤ p → take 0 (drop 0 s) ≡ part_at s p
unfolding part_at
part_past s p h = rw (drop_of_length-le s h, take-nil)

pub found_within : (s : List ℕ) (p : ℕ) (x : Record) → p < length s → x ≡ record_of (part_at s p) → Some x ≡ found_at s p
unfolding found_at
found_within s p x h e = rw (e, lt-ltb p (length s) h)

pub found_past : (s : List ℕ) (p : ℕ) → length s ≤ p → None ≡ found_at s p
unfolding found_at
found_past s p h = rw (le-ltb p (length s) h)

-- the step t from p goes on, and stays within
pub step_place : (s : List ℕ) (p : ℕ) (t : Step) → p < length s → t ≡ step_at s p → (p < t.next) × (t.next ≤ length s)
step_place s p t h e = place_within s p t.next (ap (λ (x : Step). x.next) e) h
