-- Lists of atoms, clauses, updates and rules, written into a lent slice.
use Rattle.std.specs.Prelude.{List, [], ℕ}
use Rattle.table_format.specs.declared.Atom.{Atom}
use Rattle.table_format.specs.declared.Update.{Update}
use Rattle.table_format.specs.declared.InitialValue.{InitialValue}
use Rattle.table_format.specs.Table.{Rule, atoms_to, clauses_to, updates_to, rules_to, initial_to}
use Rattle.table_writer.specs.Wrote.{WroteRecords}

abbrev pub WroteAtoms : List ℕ → ℕ → List Atom → List ℕ → ℕ → Type 0
WroteAtoms d at l e p = WroteRecords d at (atoms_to l []) e p

abbrev pub WroteClauses : List ℕ → ℕ → List (List Atom) → List ℕ → ℕ → Type 0
WroteClauses d at l e p = WroteRecords d at (clauses_to l []) e p

abbrev pub WroteUpdates : List ℕ → ℕ → List Update → List ℕ → ℕ → Type 0
WroteUpdates d at l e p = WroteRecords d at (updates_to l []) e p

abbrev pub WroteInitial : List ℕ → ℕ → List InitialValue → List ℕ → ℕ → Type 0
WroteInitial d at l e p = WroteRecords d at (initial_to l []) e p

abbrev pub WroteRules : List ℕ → ℕ → List Rule → List ℕ → ℕ → Type 0
WroteRules d at l e p = WroteRecords d at (rules_to l) e p
