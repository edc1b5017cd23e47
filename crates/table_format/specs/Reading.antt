-- Reading a table: causes 1 to 4 and 14, at the first bad record.
use Rattle.std.specs.Prelude.{Bool, true, false, cond, ◌&&◌, ◌||◌, not, List, [], ◌∷◌, ℕ, ◌+◌, length, eqb, ltb, leb, ℤ, pos}
use Rattle.std.specs.Int.Signed.{lt_z, le_z}
use Rattle.numbers.specs.Values.{bits_of}
use Rattle.records.specs.declared.Notation.TheVariants as notations
use Rattle.records.specs.declared.Operand.{Operand}
use Rattle.records.specs.declared.Cause.{Cause}
use Rattle.records.specs.declared.Cause.TheVariants.{None, CutRecord, WrongKind, TooMany, WrongField, NamesNothing}
use Rattle.records.specs.declared.Refusal.{Refusal}
use Rattle.records.specs.Format.{constant_tag, parts}
use Rattle.records.specs.Refusals.{is_none, in_model, no_refusal}
use Rattle.records.specs.Events.{start_kind}
use Rattle.table_format.specs.declared.InitialValue.{InitialValue}
use Rattle.table_format.specs.declared.RuleHead.{RuleHead}
use Rattle.table_format.specs.declared.Atom.{Atom}
use Rattle.table_format.specs.declared.Update.{Update}
use Rattle.table_format.specs.declared.Context.{Context}
use Rattle.table_format.specs.declared.Record.{Record}
use Rattle.table_format.specs.declared.Record.TheVariants.{Initial, Head, Clause, Atomic, Change, Cut, Unknown}
use Rattle.table_format.specs.Variables.{is_variable, no_variable}
use Rattle.table_format.specs.RuleKinds.{has_rules}
use Rattle.table_format.specs.Format.{variable_tag, length_tag, multiple_op, no_multiple_op, record_of}

-- ---- fields
-- the number of a variable that is there
abbrev pub names_variable : ℤ → Bool
names_variable z = le_z (pos 0) z && is_variable (bits_of z)

-- "Operands, checked likewise, have tag 0 constant, 1 variable, 2 chosen length (only in updates of START rules)"; the number behind
-- the chosen length is free.
unfoldable pub operand_fits : Bool → Operand → Bool
operand_fits may_choose o = cond (eqb o.tag constant_tag) true (cond (eqb o.tag variable_tag) (names_variable o.value.0) (may_choose && eqb o.tag length_tag))

-- "variables rising (else 4)", "Variable 0 is neither started nor updated."
unfoldable pub initial_fits : ℕ → InitialValue → Bool
initial_fits least x = leb least x.variable && is_variable x.variable

-- the longest length that a START may choose
abbrev pub longest_length : ℕ
longest_length = 1000000

-- "event kind (01 to 0A)", "low, high u32 (0 but for START; low ≤ high ≤ 1,000,000)"
unfoldable pub head_fits : RuleHead → Bool
head_fits h = has_rules h.kind && (leb h.low h.high && leb h.high (cond (eqb h.kind start_kind) longest_length 0))

-- "Ops 6 and 7: (not) a multiple of a constant above 0."
unfoldable pub atom_fits : Atom → Bool
atom_fits a =
    ltb a.op 8 && (is_variable a.variable &&
    cond (ltb a.op multiple_op) (operand_fits false a.right) (eqb a.right.tag constant_tag && lt_z (pos 0) a.right.value.0))

-- "condition variable u16 (65,535 none)", "op u8 as in 0A"; kind is the event kind of the rule.
unfoldable pub update_fits : ℕ → Update → Bool
update_fits kind u =
    (eqb u.condition no_variable || is_variable u.condition) &&
    (ltb 0 u.target && (is_variable u.target && (ltb u.op 3 &&
    (operand_fits (eqb kind start_kind) u.first && operand_fits (eqb kind start_kind) u.second))))

-- ---- names: "a number that names no item, mode or variable". What fits has them all (`FieldFaults`).
-- "a number behind a tag that may not stand there is not looked at"
abbrev pub operand_names : Operand → Bool
operand_names o = not (eqb o.tag variable_tag) || names_variable o.value.0

abbrev pub initial_names : InitialValue → Bool
initial_names x = is_variable x.variable

-- beside a multiple no variable may stand
unfoldable pub atom_names : Atom → Bool
atom_names a = is_variable a.variable && ((eqb a.op multiple_op || eqb a.op no_multiple_op) || operand_names a.right)

unfoldable pub update_names : Update → Bool
update_names u =
    (eqb u.condition no_variable || is_variable u.condition) &&
    (is_variable u.target && (operand_names u.first && operand_names u.second))

-- ---- order
abbrev pub begin : Context
begin = record { place = 0; least = 1; kind = 0 }

-- "kind unknown or out of order" before "14 names nothing" before "other field outside its range"
abbrev pub judged : Bool → Bool → Bool → Cause
judged in_order names fits = cond in_order (cond names (cond fits None WrongField) NamesNothing) WrongKind

-- "all before rules"; "A rule is 21, clauses with their atoms, updates."
unfoldable pub cause_of : Context → Record → Cause
cause_of c (Initial x) = judged (eqb c.place 0) (initial_names x) (initial_fits c.least x)
cause_of c (Head h) = judged true true (head_fits h)
cause_of c Clause = judged (eqb c.place 1 || eqb c.place 2) true true
cause_of c (Atomic a) = judged (eqb c.place 2) (atom_names a) (atom_fits a)
cause_of c (Change u) = judged (ltb 0 c.place) (update_names u) (update_fits c.kind u)
cause_of c Cut = CutRecord
cause_of c Unknown = WrongKind

unfoldable pub next_context : Context → Record → Context
next_context c (Initial x) = record { place = 0; least = x.variable + 1; kind = c.kind }
next_context c (Head h) = record { place = 1; least = c.least; kind = h.kind }
next_context c Clause = record { place = 2; least = c.least; kind = c.kind }
next_context c (Atomic a) = record { place = 2; least = c.least; kind = c.kind }
next_context c (Change u) = record { place = 3; least = c.least; kind = c.kind }
next_context c Cut = c
next_context c Unknown = c

-- "The first bad record decides": the parts from place p on
unfoldable pub read_from : Context → ℕ → List (List ℕ) → Refusal
read_from c p [] = no_refusal
read_from c p (x ∷ l) =
    let k = cause_of c (record_of x) in
    let r = read_from (next_context c (record_of x)) (p + length x) l in
    cond (is_none k) r (in_model k p (p + length x))

-- "A table is at most 1,000,000 bytes."
abbrev pub longest_table : ℕ
longest_table = 1000000

-- "A table too long hands back its whole, before any record is read."
unfoldable pub read_table : List ℕ → Refusal
read_table s =
    let r = read_from begin 0 (parts notations.Table s) in
    cond (ltb longest_table (length s)) (in_model TooMany 0 (length s)) r
