-- What stands at a place of a table: its records from there on, and a rule whose head ends there.
use Rattle.std.specs.Prelude.{List, ℕ, take, drop}
use Rattle.records.specs.Format.{head_size}
use Rattle.table_format.specs.declared.RuleHead.{RuleHead}
use Rattle.table_format.specs.declared.Atom.{Atom}
use Rattle.table_format.specs.Format.{records, head_of}
use Rattle.table_format.specs.Table.{Rule, gather}

-- the m bytes from p on
abbrev pub bytes_at : List ℕ → ℕ → ℕ → List ℕ
bytes_at s p m = take m (drop p s)

abbrev pub head_in : List ℕ → ℕ → RuleHead
head_in s p = head_of (bytes_at s p head_size)

-- the clauses of the rule whose records after its head begin at p
abbrev pub clauses_at : List ℕ → ℕ → List (List Atom)
clauses_at s p = (gather (records (drop p s))).clauses

-- and that rule, where h is its head
abbrev pub rule_at : List ℕ → ℕ → RuleHead → Rule
rule_at s p h = record { head = h; clauses = clauses_at s p; updates = (gather (records (drop p s))).updates }

-- the rules of the records from p on
abbrev pub rules_from : List ℕ → ℕ → List Rule
rules_from s p = (gather (records (drop p s))).rules
