-- Reading a table one record at a time: what stands at a place, the place after it, and a walk of such steps.
use Rattle.std.specs.Prelude.{Option, Some, None, Bool, cond, List, [], ◌∷◌, ℕ, zero, suc, ◌+◌, length, take, drop, ltb, leb}
use Rattle.records.specs.declared.Notation.TheVariants as notations
use Rattle.records.specs.Format.{part_length_at}
use Rattle.table_format.specs.declared.Record.{Record}
use Rattle.table_format.specs.declared.Record.TheVariants.{Initial, Head, Clause, Atomic, Change, Cut, Unknown}
use Rattle.table_format.specs.Format.{record_of}
use Rattle.table_reader.specs.declared.Step.{Step}

-- the bytes of the record at p
unfoldable pub part_at : List ℕ → ℕ → List ℕ
part_at s p = take (part_length_at notations.Table s p) (drop p s)

-- the record at p, or the end
unfoldable pub found_at : List ℕ → ℕ → Option Record
found_at s p = cond (ltb p (length s)) (Some (record_of (part_at s p))) None

-- the place of the next record; at the end, the same place
unfoldable pub place_after : List ℕ → ℕ → ℕ
place_after s p = p + part_length_at notations.Table s p

abbrev pub is_end : List ℕ → ℕ → Bool
is_end s p = leb (length s) p

abbrev pub step_at : List ℕ → ℕ → Step
step_at s p = record { found = found_at s p; next = place_after s p }

abbrev pub before : Option Record → List Record → List Record
before (Some x) l = x ∷ l
before None l = []

-- the records that n steps from p pass
unfoldable pub walk : ℕ → List ℕ → ℕ → List Record
walk zero s p = []
walk (suc n) s p = before (found_at s p) (walk n s (place_after s p))

-- ---- how many of some records begin a rule
unfoldable pub rule_in : Record → ℕ
rule_in (Initial x) = 0
rule_in (Head h) = 1
rule_in Clause = 0
rule_in (Atomic a) = 0
rule_in (Change u) = 0
rule_in Cut = 0
rule_in Unknown = 0

unfoldable pub rules_in : Option Record → ℕ
rules_in (Some x) = rule_in x
rules_in None = 0

unfoldable pub count_rules : List Record → ℕ
count_rules [] = 0
count_rules (x ∷ l) = rule_in x + count_rules l
