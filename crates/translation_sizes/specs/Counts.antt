-- Records counted over rules as data, and added up.
use Rattle.std.specs.Prelude.{List, [], ◌∷◌, ℕ, ◌+◌, ◌*◌, length}
use Rattle.numbers.specs.Lists.{fold_below}
use Rattle.table_format.specs.declared.Atom.{Atom}
use Rattle.table_format.specs.declared.Update.{Update}
use Rattle.table_format.specs.Table.{Rule}
use Rattle.translation.specs.Parts.{Body}
use Rattle.translation_sizes.specs.declared.TableSize.{TableSize}
use Rattle.translation_sizes.specs.declared.Counts.{Counts}

-- so many rules, clauses, atoms and updates
abbrev pub counts : ℕ → ℕ → ℕ → ℕ → Counts
counts r c a u = record { rules = r; clauses = c; atoms = a; updates = u }

abbrev pub nothing : Counts
nothing = counts 0 0 0 0

infixr 60 ◌and◌
abbrev pub ◌and◌ : Counts → Counts → Counts
x and y = counts (x.rules + y.rules) (x.clauses + y.clauses) (x.atoms + y.atoms) (x.updates + y.updates)

-- f 0, f 1, .. together
abbrev pub count_below : ℕ → (ℕ → Counts) → Counts
count_below n f = fold_below n (λ i x. x and f i) nothing

-- ---- clauses with their atoms, updates, rules
unfoldable pub atoms_in : List (List Atom) → ℕ
atoms_in [] = 0
atoms_in (c ∷ l) = length c + atoms_in l

abbrev pub clauses_counts : List (List Atom) → Counts
clauses_counts l = counts 0 (length l) (atoms_in l) 0

abbrev pub updates_counts : List Update → Counts
updates_counts l = counts 0 0 0 (length l)

unfoldable pub rules_counts : List Rule → Counts
rules_counts [] = nothing
rules_counts (x ∷ l) = counts 1 (length x.clauses) (atoms_in x.clauses) (length x.updates) and rules_counts l

abbrev pub body_counts : Body → Counts
body_counts b = counts 1 (length b.clauses) (atoms_in b.clauses) (length b.updates)

unfoldable pub bodies_counts : List Body → Counts
bodies_counts [] = nothing
bodies_counts (b ∷ l) = body_counts b and bodies_counts l

-- ---- the size of a table by its start records, of 7 bytes, and its other records: 11 bytes for a rule, 1 for a clause, 9 for an atom, 17 for an update
abbrev pub bytes_by : Counts → ℕ
bytes_by x = 11 * x.rules + x.clauses + 9 * x.atoms + 17 * x.updates

unfoldable pub size_by : ℕ → Counts → TableSize
size_by starts x = record {
  bytes = 7 * starts + bytes_by x;
  rules = x.rules;
  clauses = x.clauses;
  atoms = x.atoms;
  updates = x.updates;
}
