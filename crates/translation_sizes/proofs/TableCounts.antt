-- The size of a well-formed table's bytes, by its start records and its rules.
use Rattle.std.specs.Prelude.{◌≡◌, refl, List, [], ◌∷◌, ℕ, ◌+◌, ◌*◌, length}
use Rattle.std.proofs.Common.{sym, ◌∙◌, ap, arith}
use Rattle.records.specs.Kinds.{table_rule, table_clause, table_atom, table_update}
use Rattle.table_format.specs.declared.InitialValue.{InitialValue}
use Rattle.table_format.specs.declared.Atom.{Atom}
use Rattle.table_format.specs.declared.Update.{Update}
use Rattle.table_format.specs.declared.Record.{Record}
use Rattle.table_format.specs.Format.{kind_of}
use Rattle.table_format.specs.Table.{Rule, Table, atoms_to, clauses_to, updates_to, rules_to, initial_to, encode}
use Rattle.table_format.specs.Reading.{begin}
use Rattle.table_format.specs.BytesLaws.{clauses_size, rules_size, length_table}
use Rattle.table_format.specs.WellFormed.{WellFormedTable}
use Rattle.table_format.specs.RoundTrip.{records_back, passes_fit, table_passes}
use Rattle.translation_sizes.specs.declared.TableSize.{TableSize}
use Rattle.translation_sizes.specs.declared.Counts.{Counts}
use Rattle.translation_sizes.specs.Sizes.{count_of, size_of}
use Rattle.translation_sizes.specs.Counts.{counts, ◌and◌, atoms_in, clauses_counts, updates_counts, rules_counts, bytes_by, size_by}
use Rattle.translation_sizes.specs.CountLaws.{same_counts, nothing_and}

-- the records of each kind in a list
abbrev listed : List Record → Counts
listed l = counts (count_of table_rule l) (count_of table_clause l) (count_of table_atom l) (count_of table_update l)

listed_atoms : (l : List Atom) (r : List Record) → listed (atoms_to l r) ≡ counts 0 0 (length l) 0 and listed r
unfolding atoms_to count_of kind_of
listed_atoms [] r = sym (nothing_and (listed r))
listed_atoms (a ∷ l) r = ap (λ (x : Counts). counts 0 0 1 0 and x) (listed_atoms l r) ∙ same_counts (omega arith) (omega arith) (omega arith) (omega arith)

listed_clauses : (l : List (List Atom)) (r : List Record) → listed (clauses_to l r) ≡ clauses_counts l and listed r
unfolding clauses_to count_of kind_of atoms_in
listed_clauses [] r = sym (nothing_and (listed r))
listed_clauses (c ∷ l) r =
    ap (λ (x : Counts). counts 0 1 0 0 and x) (listed_atoms c (clauses_to l r) ∙ ap (λ (x : Counts). counts 0 0 (length c) 0 and x) (listed_clauses l r)) ∙
    same_counts (omega arith) (omega arith) (omega arith) (omega arith)

listed_updates : (l : List Update) (r : List Record) → listed (updates_to l r) ≡ updates_counts l and listed r
unfolding updates_to count_of kind_of
listed_updates [] r = sym (nothing_and (listed r))
listed_updates (u ∷ l) r = ap (λ (x : Counts). counts 0 0 0 1 and x) (listed_updates l r) ∙ same_counts (omega arith) (omega arith) (omega arith) (omega arith)

listed_initial : (l : List InitialValue) (r : List Record) → listed (initial_to l r) ≡ listed r
unfolding initial_to count_of kind_of
listed_initial [] r = refl
listed_initial (x ∷ l) r = nothing_and (listed (initial_to l r)) ∙ listed_initial l r

listed_rules : (l : List Rule) → listed (rules_to l) ≡ rules_counts l
unfolding rules_to count_of kind_of rules_counts
listed_rules [] = refl
listed_rules (x ∷ l) =
    ap (λ (y : Counts). counts 1 0 0 0 and y) (
    listed_clauses x.clauses (updates_to x.updates (rules_to l)) ∙
    ap (λ (y : Counts). clauses_counts x.clauses and y) (listed_updates x.updates (rules_to l) ∙ ap (λ (y : Counts). updates_counts x.updates and y) (listed_rules l))) ∙
    same_counts (omega arith) (omega arith) (omega arith) (omega arith)

-- ---- the bytes
atoms_bytes : (l : List (List Atom)) → clauses_size l ≡ length l + 9 * atoms_in l
unfolding clauses_size atoms_in
atoms_bytes [] = refl
atoms_bytes (c ∷ l) = omega (arith, atoms_bytes l)

rules_bytes : (l : List Rule) → rules_size l ≡ bytes_by (rules_counts l)
unfolding rules_size rules_counts
rules_bytes [] = refl
rules_bytes (x ∷ l) = omega (arith, rules_bytes l, atoms_bytes x.clauses)

pub table_bytes_lem : (t : Table) → length (encode t) ≡ 7 * length t.initial + bytes_by (rules_counts t.rules)
table_bytes_lem t = omega (arith, length_table t, rules_bytes t.rules)

-- ---- together
abbrev size : ℕ → Counts → TableSize
size n x = record { bytes = n; rules = x.rules; clauses = x.clauses; atoms = x.atoms; updates = x.updates }

same_size : {n k : ℕ} {x y : Counts} → n ≡ k → x ≡ y → size n x ≡ size k y
same_size e f = rw (e, f)

pub table_size_lem : (t : Table) → WellFormedTable t → size_of (encode t) ≡ size_by (length t.initial) (rules_counts t.rules)
unfolding size_of size_by
table_size_lem t w =
    let l = initial_to t.initial (rules_to t.rules) in
    same_size (table_bytes_lem t) (ap listed (records_back l (passes_fit l begin (table_passes t w))) ∙ (listed_initial t.initial (rules_to t.rules) ∙ listed_rules t.rules))
