-- A list of the rules of a table beside it, its index, so that no event walks the table: what stands in it, and the rules that an index of ANY
-- content stands for. An index is one list of numbers: how many rules are listed, the place from which on the other rules are, and two words for
-- each rule listed.
use Rattle.std.specs.Prelude.{Bool, cond, ◌&&◌, List, [], ◌∷◌, ◌++◌, ℕ, ◌+◌, ◌-◌, ◌*◌, ◌/◌, ◌%◌, min, get_or, length, take, drop, eqb, ltb, leb}
use Rattle.numbers.specs.Values.{u16_at, value_at, bits_of}
use Rattle.records.specs.declared.Notation.TheVariants as notations
use Rattle.records.specs.declared.Event.{Event}
use Rattle.records.specs.Kinds.{table_rule, table_clause, table_atom}
use Rattle.records.specs.Format.{head_size, table_atom_size, parts}
use Rattle.table_format.specs.Table.{Rule}
use Rattle.table_format.specs.Reading.{longest_table}
use Rattle.table_semantics.specs.declared.Variables.{Variables}
use Rattle.table_semantics.specs.declared.Stepped.{Stepped}
use Rattle.table_semantics.specs.Machine.{step}
use Rattle.table_rules.specs.At.{bytes_at, head_in, rule_at, rules_from}

-- ---- the heads of a table
-- a head, of "21 rule", stands whole at p
unfoldable pub is_head : List ℕ → ℕ → Bool
is_head s p = leb (p + head_size) (length s) && eqb (get_or s p 0) table_rule

-- the places of the heads among parts, the first of which begins at p
unfoldable pub heads_from : ℕ → List (List ℕ) → List ℕ
heads_from p [] = []
heads_from p (x ∷ l) = let r = heads_from (p + length x) l in cond (is_head x 0) (p ∷ r) r

unfoldable pub head_places : List ℕ → List ℕ
head_places s = heads_from 0 (parts notations.Table s)

-- ---- what an index has for a head: two words
-- the event kind and the id of a rule as one number, of as many as two bytes have
abbrev pub keys : ℕ
keys = 65536

abbrev pub key_of : ℕ → ℕ → ℕ
key_of k i = 256 * (k % 256) + i % 256

abbrev pub key_at : List ℕ → ℕ → ℕ
key_at s p = key_of (get_or s (p + 1) 0) (get_or s (p + 2) 0)

-- the first word: the head's place and its key
abbrev pub entry_at : List ℕ → ℕ → ℕ
entry_at s p = keys * p + key_at s p

-- what the atom that a part holds asks its variable for, where it is variable = constant: the variable's number times 2^32, and the
-- constant's bits. Else 0
unfoldable pub asked_in : List ℕ → ℕ
asked_in x = cond (eqb (get_or x 1 0) 0 && eqb (get_or x 4 0) 0) (4294967296 * u16_at x 2 + bits_of (value_at x 5).0) 0

-- the second word, the guard: the same of the first clause of a rule whose records after its head begin at p, where that is one atom
unfoldable pub guard_at : List ℕ → ℕ → ℕ
guard_at s p =
    cond (leb (p + 11) (length s) && (eqb (get_or s p 0) table_clause && (eqb (get_or s (p + 1) 0) table_atom && eqb (get_or s (p + 10) 0) table_clause)))
    (asked_in (bytes_at s (p + 1) table_atom_size)) 0

-- ---- the index that is made of a table
-- how many rules an index of n numbers has room for; "A table is at most 1,000,000 bytes", of a longer one none is listed
unfoldable pub room_for : List ℕ → ℕ → ℕ
room_for s n = cond (ltb longest_table (length s)) 0 ((n - 2) / 2)

-- the heads of the rules listed
unfoldable pub places_listed : List ℕ → ℕ → List ℕ
places_listed s n = take (room_for s n) (head_places s)

-- the place of the first head that is not, the table's end where all are
unfoldable pub rest_of : List ℕ → ℕ → ℕ
rest_of s n = get_or (head_places s) (room_for s n) (length s)

unfoldable pub entries_of : List ℕ → List ℕ → List ℕ
entries_of s [] = []
entries_of s (p ∷ l) = entry_at s p ∷ guard_at s (p + head_size) ∷ entries_of s l

unfoldable pub index_of : List ℕ → ℕ → List ℕ
index_of s n = length (places_listed s n) ∷ rest_of s n ∷ entries_of s (places_listed s n)

-- how many numbers it takes to list all
unfoldable pub index_size : List ℕ → ℕ
index_size s = 2 + 2 * length (head_places s)

-- ---- what any index stands for
-- two words list a rule where its head stands at the place and both are those of that head; words of any other content list none
unfoldable pub is_listed : List ℕ → ℕ → ℕ → Bool
is_listed s w g = is_head s (w / keys) && (eqb (key_at s (w / keys)) (w % keys) && eqb (guard_at s (w / keys + head_size)) g)

unfoldable pub listed : List ℕ → List ℕ → List Rule
listed s [] = []
listed s (w ∷ []) = []
listed s (w ∷ g ∷ l) = let r = listed s l in cond (is_listed s w g) (rule_at s (w / keys + head_size) (head_in s (w / keys)) ∷ r) r

-- the rules listed, then those of the records from `rest` on
abbrev pub rules_in : List ℕ → List ℕ → ℕ → List Rule
rules_in s words rest = listed s words ++ rules_from s rest

-- how many rules an index lists: as many as its first number tells, and as it has words for
abbrev pub listed_in : List ℕ → ℕ
listed_in d = min (get_or d 0 0) ((length d - 2) / 2)

abbrev pub words_in : List ℕ → List ℕ
words_in d = take (2 * listed_in d) (drop 2 d)

-- an index of fewer than two numbers lists none, and all rules are those from place 0 on
unfoldable pub rules_by : List ℕ → List ℕ → List Rule
rules_by s d = rules_in s (words_in d) (get_or d 1 0)

-- one event by an index: the machine's own step, on those rules
unfoldable pub step_by : List ℕ → List ℕ → Variables → Event → Stepped
step_by s d v e = step (rules_by s d) v e
