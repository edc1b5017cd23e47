-- The records of a table: what a part holds, and the bytes of a record.
use Rattle.std.specs.Prelude.{cond, List, [], ◌∷◌, ℕ, get_or, length, eqb, ltb}
use Rattle.numbers.specs.Values.{u16_at, u32_at, u16_to, u32_to, bits_of, value_at}
use Rattle.records.specs.declared.Notation.TheVariants as notations
use Rattle.records.specs.declared.Operand.{Operand}
use Rattle.records.specs.Kinds.{table_start, table_rule, table_clause, table_atom, table_update}
use Rattle.records.specs.Format.{record_size, parts, operand_at}
use Rattle.table_format.specs.declared.InitialValue.{InitialValue}
use Rattle.table_format.specs.declared.RuleHead.{RuleHead}
use Rattle.table_format.specs.declared.Atom.{Atom}
use Rattle.table_format.specs.declared.Update.{Update}
use Rattle.table_format.specs.declared.Record.{Record}
use Rattle.table_format.specs.declared.Record.TheVariants.{Initial, Head, Clause, Atomic, Change, Cut, Unknown}

-- "Operands .. have tag 0 constant, 1 variable, 2 chosen length"
abbrev pub variable_tag : ℕ
variable_tag = 1

abbrev pub length_tag : ℕ
length_tag = 2

-- "Ops 6 and 7: (not) a multiple of a constant above 0."
abbrev pub multiple_op : ℕ
multiple_op = 6

abbrev pub no_multiple_op : ℕ
no_multiple_op = 7

-- "20 start: variable u16, i32"
unfoldable pub initial_of : List ℕ → InitialValue
initial_of x = record { variable = u16_at x 1; value = value_at x 3 }

-- "21 rule: event kind .. id, u8 each, low, high u32"
unfoldable pub head_of : List ℕ → RuleHead
head_of x = record { kind = get_or x 1 0; id = get_or x 2 0; low = u32_at x 3; high = u32_at x 7 }

-- "23 atom: op u8, variable u16, operand"
unfoldable pub atom_of : List ℕ → Atom
atom_of x = record { op = get_or x 1 0; variable = u16_at x 2; right = operand_at x 4 }

-- "24 update: condition variable u16 .. wanted value u8, target u16, op u8 .. two operands"
unfoldable pub update_of : List ℕ → Update
update_of x = record { condition = u16_at x 1; wanted = get_or x 3 0; target = u16_at x 4; op = get_or x 6 0; first = operand_at x 7; second = operand_at x 12 }

abbrev pub record_of_whole : ℕ → List ℕ → Record
record_of_whole k x =
    cond (eqb k table_start) (Initial (initial_of x))
    (cond (eqb k table_rule) (Head (head_of x))
    (cond (eqb k table_clause) Clause
    (cond (eqb k table_atom) (Atomic (atom_of x)) (Change (update_of x)))))

-- the record that a part holds
unfoldable pub record_of : List ℕ → Record
record_of x =
    let m = record_size notations.Table (get_or x 0 0) in
    cond (eqb m 0) Unknown (cond (ltb (length x) m) Cut (record_of_whole (get_or x 0 0) x))

unfoldable pub records_of : List (List ℕ) → List Record
records_of [] = []
records_of (x ∷ l) = record_of x ∷ records_of l

-- "A reader walks the table one record at a time"
abbrev pub records : List ℕ → List Record
records s = records_of (parts notations.Table s)

-- ---- writing: each before the bytes r
abbrev pub operand_to : Operand → List ℕ → List ℕ
operand_to o r = o.tag ∷ u32_to (bits_of o.value.0) r

unfoldable pub record_to : Record → List ℕ → List ℕ
record_to (Initial x) r = table_start ∷ u16_to x.variable (u32_to (bits_of x.value.0) r)
record_to (Head x) r = table_rule ∷ x.kind ∷ x.id ∷ u32_to x.low (u32_to x.high r)
record_to Clause r = table_clause ∷ r
record_to (Atomic x) r = table_atom ∷ x.op ∷ u16_to x.variable (operand_to x.right r)
record_to (Change x) r = table_update ∷ u16_to x.condition (x.wanted ∷ u16_to x.target (x.op ∷ operand_to x.first (operand_to x.second r)))
record_to Cut r = r
record_to Unknown r = r

unfoldable pub bytes_of : List Record → List ℕ
bytes_of [] = []
bytes_of (x ∷ l) = record_to x (bytes_of l)

-- ---- the kind of a record: walks that look for one kind decode no other
unfoldable pub kind_of : Record → ℕ
kind_of (Initial x) = table_start
kind_of (Head h) = table_rule
kind_of Clause = table_clause
kind_of (Atomic a) = table_atom
kind_of (Change u) = table_update
kind_of Cut = 0
kind_of Unknown = 0
