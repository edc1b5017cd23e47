-- A table as data: the rules that its records stand for, and the records of rules.
use Rattle.std.specs.Prelude.{List, [], ◌∷◌, ℕ}
use Rattle.table_format.specs.declared.InitialValue.{InitialValue}
use Rattle.table_format.specs.declared.RuleHead.{RuleHead}
use Rattle.table_format.specs.declared.Atom.{Atom}
use Rattle.table_format.specs.declared.Update.{Update}
use Rattle.table_format.specs.declared.Record.{Record}
use Rattle.table_format.specs.declared.Record.TheVariants.{Initial, Head, Clause, Atomic, Change, Cut, Unknown}
use Rattle.table_format.specs.Format.{records, bytes_of}

-- "A rule is 21, clauses with their atoms, updates."
pub record Rule : Type 0 where
  pub head : RuleHead
  pub clauses : List (List Atom)
  pub updates : List Update

pub record Table : Type 0 where
  pub initial : List InitialValue
  pub rules : List Rule

-- What records stand for. Atoms wait for the clause before them, clauses and updates for their rule.
pub record Gathered : Type 0 where
  pub atoms : List Atom
  pub clauses : List (List Atom)
  pub updates : List Update
  pub initial : List InitialValue
  pub rules : List Rule

abbrev pub gather_one : Record → Gathered → Gathered
gather_one (Initial x) g = record { atoms = g.atoms; clauses = g.clauses; updates = g.updates; initial = x ∷ g.initial; rules = g.rules }
gather_one (Head h) g = record { atoms = []; clauses = []; updates = []; initial = g.initial; rules = record { head = h; clauses = g.clauses; updates = g.updates } ∷ g.rules }
gather_one Clause g = record { atoms = []; clauses = g.atoms ∷ g.clauses; updates = g.updates; initial = g.initial; rules = g.rules }
gather_one (Atomic a) g = record { atoms = a ∷ g.atoms; clauses = g.clauses; updates = g.updates; initial = g.initial; rules = g.rules }
gather_one (Change u) g = record { atoms = g.atoms; clauses = g.clauses; updates = u ∷ g.updates; initial = g.initial; rules = g.rules }
gather_one Cut g = g
gather_one Unknown g = g

unfoldable pub gather : List Record → Gathered
gather [] = record { atoms = []; clauses = []; updates = []; initial = []; rules = [] }
gather (x ∷ l) = gather_one x (gather l)

-- the table that bytes stand for
unfoldable pub table_of : List ℕ → Table
table_of s = record { initial = (gather (records s)).initial; rules = (gather (records s)).rules }

-- ---- the records of a table, each before the records r
unfoldable pub atoms_to : List Atom → List Record → List Record
atoms_to [] r = r
atoms_to (a ∷ l) r = Atomic a ∷ atoms_to l r

unfoldable pub clauses_to : List (List Atom) → List Record → List Record
clauses_to [] r = r
clauses_to (c ∷ l) r = Clause ∷ atoms_to c (clauses_to l r)

unfoldable pub updates_to : List Update → List Record → List Record
updates_to [] r = r
updates_to (u ∷ l) r = Change u ∷ updates_to l r

unfoldable pub rules_to : List Rule → List Record
rules_to [] = []
rules_to (x ∷ l) = Head x.head ∷ clauses_to x.clauses (updates_to x.updates (rules_to l))

unfoldable pub initial_to : List InitialValue → List Record → List Record
initial_to [] r = r
initial_to (x ∷ l) r = Initial x ∷ initial_to l r

-- the bytes of a table
abbrev pub encode : Table → List ℕ
encode t = bytes_of (initial_to t.initial (rules_to t.rules))
