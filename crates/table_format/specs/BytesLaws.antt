-- The bytes of a table one after the other, and how many they are.
use Rattle.std.specs.Prelude.{◌≡◌, refl, List, [], ◌∷◌, ◌++◌, ℕ, ◌+◌, ◌*◌, length}
use Rattle.std.proofs.Common.{◌∙◌, ap, arith}
use Rattle.records.specs.declared.Notation.TheVariants as notations
use Rattle.records.specs.Format.{record_size}
use Rattle.table_format.specs.declared.InitialValue.{InitialValue}
use Rattle.table_format.specs.declared.Atom.{Atom}
use Rattle.table_format.specs.declared.Update.{Update}
use Rattle.table_format.specs.declared.Record.{Record}
use Rattle.table_format.specs.declared.Record.TheVariants.{Initial, Head, Clause, Atomic, Change, Cut, Unknown}
use Rattle.table_format.specs.Format.{record_to, bytes_of, kind_of}
use Rattle.table_format.specs.Table.{Rule, Table, atoms_to, clauses_to, updates_to, rules_to, initial_to, encode}

-- ---- one after the other
record_append : (x : Record) (r s : List ℕ) → record_to x (r ++ s) ≡ record_to x r ++ s
unfolding record_to
record_append (Initial x) r s = refl
record_append (Head x) r s = refl
record_append Clause r s = refl
record_append (Atomic x) r s = refl
record_append (Change x) r s = refl
record_append Cut r s = refl
record_append Unknown r s = refl

pub bytes_append : (l r : List Record) → bytes_of (l ++ r) ≡ bytes_of l ++ bytes_of r
unfolding bytes_of
bytes_append [] r = refl
bytes_append (x ∷ l) r = rw (bytes_append l r, record_append x (bytes_of l) (bytes_of r))

pub atoms_append : (l : List Atom) (r s : List Record) → atoms_to l (r ++ s) ≡ atoms_to l r ++ s
unfolding atoms_to
atoms_append [] r s = refl
atoms_append (a ∷ l) r s = rw (atoms_append l r s)

pub clauses_append : (l : List (List Atom)) (r s : List Record) → clauses_to l (r ++ s) ≡ clauses_to l r ++ s
unfolding clauses_to
clauses_append [] r s = refl
clauses_append (c ∷ l) r s = rw (clauses_append l r s, atoms_append c (clauses_to l r) s)

updates_append : (l : List Update) (r s : List Record) → updates_to l (r ++ s) ≡ updates_to l r ++ s
unfolding updates_to
updates_append [] r s = refl
updates_append (u ∷ l) r s = rw (updates_append l r s)

pub initial_append : (l : List InitialValue) (r s : List Record) → initial_to l (r ++ s) ≡ initial_to l r ++ s
unfolding initial_to
initial_append [] r s = refl
initial_append (x ∷ l) r s = rw (initial_append l r s)

-- the rules of two lists
pub rules_append : (l k : List Rule) → rules_to (l ++ k) ≡ rules_to l ++ rules_to k
unfolding rules_to
rules_append [] k = refl
rules_append (x ∷ l) k =
    rw (rules_append l k, updates_append x.updates (rules_to l) (rules_to k), clauses_append x.clauses (updates_to x.updates (rules_to l)) (rules_to k))

-- ---- how many
abbrev size_of : Record → ℕ
size_of x = record_size notations.Table (kind_of x)

length_record : (x : Record) (r : List ℕ) → length (record_to x r) ≡ size_of x + length r
unfolding record_to record_size kind_of
length_record (Initial x) r = omega arith
length_record (Head x) r = omega arith
length_record Clause r = omega arith
length_record (Atomic x) r = omega arith
length_record (Change x) r = omega arith
length_record Cut r = omega arith
length_record Unknown r = omega arith

unfoldable size_of_all : List Record → ℕ
size_of_all [] = 0
size_of_all (x ∷ l) = size_of x + size_of_all l

length_bytes : (l : List Record) → length (bytes_of l) ≡ size_of_all l
unfolding bytes_of size_of_all
length_bytes [] = refl
length_bytes (x ∷ l) = length_record x (bytes_of l) ∙ ap (λ (n : ℕ). size_of x + n) (length_bytes l)

-- by the table's parts
unfoldable pub clauses_size : List (List Atom) → ℕ
clauses_size [] = 0
clauses_size (c ∷ l) = 1 + 9 * length c + clauses_size l

abbrev pub rule_size : Rule → ℕ
rule_size x = 11 + clauses_size x.clauses + 17 * length x.updates

unfoldable pub rules_size : List Rule → ℕ
rules_size [] = 0
rules_size (x ∷ l) = rule_size x + rules_size l

abbrev pub table_size : Table → ℕ
table_size t = 7 * length t.initial + rules_size t.rules

size_atoms : (l : List Atom) (r : List Record) → size_of_all (atoms_to l r) ≡ 9 * length l + size_of_all r
unfolding size_of_all atoms_to record_size kind_of
size_atoms [] r = omega arith
size_atoms (a ∷ l) r = let e = size_atoms l r in omega arith

size_clauses : (l : List (List Atom)) (r : List Record) → size_of_all (clauses_to l r) ≡ clauses_size l + size_of_all r
unfolding size_of_all clauses_to clauses_size record_size kind_of
size_clauses [] r = omega arith
size_clauses (c ∷ l) r = let e = size_clauses l r in let d = size_atoms c (clauses_to l r) in omega arith

size_updates : (l : List Update) (r : List Record) → size_of_all (updates_to l r) ≡ 17 * length l + size_of_all r
unfolding size_of_all updates_to record_size kind_of
size_updates [] r = omega arith
size_updates (u ∷ l) r = let e = size_updates l r in omega arith

size_initial : (l : List InitialValue) (r : List Record) → size_of_all (initial_to l r) ≡ 7 * length l + size_of_all r
unfolding size_of_all initial_to record_size kind_of
size_initial [] r = omega arith
size_initial (x ∷ l) r = let e = size_initial l r in omega arith

size_rules : (l : List Rule) → size_of_all (rules_to l) ≡ rules_size l
unfolding size_of_all rules_to rules_size record_size kind_of
size_rules [] = refl
size_rules (x ∷ l) =
    let e = size_rules l in
    let d = size_updates x.updates (rules_to l) in
    let c = size_clauses x.clauses (updates_to x.updates (rules_to l)) in
    omega arith

-- 7 for an initial value, 11 for a rule, 1 for a clause, 9 for an atom, 17 for an update
pub length_table : (t : Table) → length (encode t) ≡ table_size t
length_table t =
    let a = length_bytes (initial_to t.initial (rules_to t.rules)) in
    let b = size_initial t.initial (rules_to t.rules) in
    let c = size_rules t.rules in
    omega arith
