-- A table is read record by record: from one place to the next, to its end, or to the record that is refused.
use Rattle.std.specs.Prelude.{◌≡◌, true, false, List, ℕ, ◌+◌, ◌-◌, ◌<◌, ◌≤◌, length, take, drop}
use Rattle.std.proofs.Common.{lt-ltb, le-ltb}
use Rattle.records.specs.declared.Notation.TheVariants as notations
use Rattle.records.specs.declared.Cause.{Cause}
use Rattle.records.specs.declared.Cause.TheVariants.{TooMany}
use Rattle.records.specs.Format.{part_length_at, parts}
use Rattle.records.specs.Refusals.{is_none, in_model, no_refusal}
use Rattle.records.specs.Walk.{parts_at, parts_end, part_size}
use Rattle.table_format.specs.declared.Context.{Context}
use Rattle.table_format.specs.declared.Record.{Record}
use Rattle.table_format.specs.Format.{record_of}
use Rattle.table_format.specs.Reading.{begin, cause_of, next_context, read_from, read_table, longest_table}
use Rattle.table_format.specs.RecordsAt.{record_lent}

-- m is the length of the part at p, x its record; the code lends the bytes p up to p + m. k is the cause that the record gives
module _ (s : List ℕ) (p m : ℕ) (x : Record) (h : p < length s) (e : m ≡ part_length_at notations.Table s p) (f : x ≡ record_of (take (p + m - p) (drop p s)))
    (c : Context) (k : Cause) (g : k ≡ cause_of c x) where
  pub read_on : is_none k ≡ true →
      read_from (next_context c x) (p + m) (parts notations.Table (drop (p + m) s)) ≡ read_from c p (parts notations.Table (drop p s))
  unfolding read_from
  read_on n = rw (parts_at notations.Table s p m h e, ← record_lent s p m x h e f, ← g, n, part_size notations.Table s p m h e)

  pub read_refused : is_none k ≡ false → in_model k p (p + m) ≡ read_from c p (parts notations.Table (drop p s))
  unfolding read_from
  read_refused n = rw (parts_at notations.Table s p m h e, ← record_lent s p m x h e f, ← g, n, part_size notations.Table s p m h e)

pub read_end : (s : List ℕ) (p : ℕ) (c : Context) → length s ≤ p → no_refusal ≡ read_from c p (parts notations.Table (drop p s))
unfolding read_from
read_end s p c h = rw (parts_end notations.Table s p h)

pub table_long : (s : List ℕ) → longest_table < length s → in_model TooMany 0 (length s) ≡ read_table s
unfolding read_table
table_long s h = rw (lt-ltb longest_table (length s) h)

pub table_reads : (s : List ℕ) → length s ≤ longest_table → read_from begin 0 (parts notations.Table s) ≡ read_table s
unfolding read_table
table_reads s h = rw (le-ltb longest_table (length s) h)
