-- What a writer has written, between its state before and after.
use Rattle.std.specs.Prelude.{◌≡◌, List, [], ℕ}
use Rattle.table_format.specs.declared.Record.{Record}
use Rattle.table_format.specs.declared.Atom.{Atom}
use Rattle.table_format.specs.declared.Update.{Update}
use Rattle.table_format.specs.declared.InitialValue.{InitialValue}
use Rattle.table_format.specs.Format.{bytes_of}
use Rattle.table_format.specs.Table.{Rule, atoms_to, clauses_to, updates_to, rules_to, initial_to}
use Rattle.table_writer.specs.Wrote.{Wrote}
use Rattle.table_writer.specs.declared.encoding.Writer.{Writer}

-- the bytes bs are written from the writer's place on, into the same slice
pub record Writes (before : Writer) (bs : List ℕ) (after : Writer) : Type 0 where
  pub wrote : Wrote before.bytes.now before.at bs after.bytes.now after.at
  pub lender : after.bytes.ghost_name ≡ before.bytes.ghost_name

-- the records l are written
abbrev pub WritesRecords : Writer → List Record → Writer → Type 0
WritesRecords before l after = Writes before (bytes_of l) after

abbrev pub WritesAtoms : Writer → List Atom → Writer → Type 0
WritesAtoms before l after = WritesRecords before (atoms_to l []) after

abbrev pub WritesClauses : Writer → List (List Atom) → Writer → Type 0
WritesClauses before l after = WritesRecords before (clauses_to l []) after

abbrev pub WritesUpdates : Writer → List Update → Writer → Type 0
WritesUpdates before l after = WritesRecords before (updates_to l []) after

abbrev pub WritesInitial : Writer → List InitialValue → Writer → Type 0
WritesInitial before l after = WritesRecords before (initial_to l []) after

abbrev pub WritesRules : Writer → List Rule → Writer → Type 0
WritesRules before l after = WritesRecords before (rules_to l) after
