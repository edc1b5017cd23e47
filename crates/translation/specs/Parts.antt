-- Parts of rules: operands, atoms, updates, and the rules of an event kind.
use Rattle.std.specs.Prelude.{cond, List, [], ◌∷◌, ◌++◌, ℕ, eqb}
use Rattle.numbers.specs.Lists.{join_below}
use Rattle.numbers.specs.Values.{natural, copy_op, sum_op, equals_op, differs_op, below_op, at_least_op, above_op, at_most_op}
use Rattle.records.specs.declared.Operand.{Operand}
use Rattle.records.specs.Format.{constant_tag}
use Rattle.table_format.specs.declared.Atom.{Atom}
use Rattle.table_format.specs.declared.Update.{Update}
use Rattle.table_format.specs.Variables.{no_variable}
use Rattle.table_format.specs.Format.{variable_tag, length_tag, multiple_op, no_multiple_op}
use Rattle.table_format.specs.Table.{Rule}

abbrev pub constant : ℕ → Operand
constant n = record { tag = constant_tag; value = natural n }

abbrev pub variable : ℕ → Operand
variable j = record { tag = variable_tag; value = natural j }

abbrev pub chosen_length : Operand
chosen_length = record { tag = length_tag; value = natural 0 }

-- ---- atoms: variable j on the left, o on the right
abbrev pub equals : ℕ → Operand → Atom
equals j o = record { op = equals_op; variable = j; right = o }

abbrev pub differs : ℕ → Operand → Atom
differs j o = record { op = differs_op; variable = j; right = o }

abbrev pub is_below : ℕ → Operand → Atom
is_below j o = record { op = below_op; variable = j; right = o }

abbrev pub is_at_least : ℕ → Operand → Atom
is_at_least j o = record { op = at_least_op; variable = j; right = o }

abbrev pub multiple_of : ℕ → Operand → Atom
multiple_of j o = record { op = multiple_op; variable = j; right = o }

abbrev pub no_multiple_of : ℕ → Operand → Atom
no_multiple_of j o = record { op = no_multiple_op; variable = j; right = o }

-- "Each plain condition is a clause of one atom"
abbrev pub plain : Atom → List Atom
plain a = a ∷ []

-- the opposite comparison: = and ≠, < and ≥, > and ≤
unfoldable pub negated_op : ℕ → ℕ
negated_op op =
    cond (eqb op equals_op) differs_op
    (cond (eqb op differs_op) equals_op
    (cond (eqb op below_op) at_least_op
    (cond (eqb op at_least_op) below_op
    (cond (eqb op above_op) at_most_op above_op))))

-- ---- updates: "equality and copy unless said; unused update fields 0, but the condition variable 65,535 where there is no condition"
pub record Expression : Type 0 where
  pub op : ℕ
  pub first : Operand
  pub second : Operand

abbrev pub copied : Operand → Expression
copied o = record { op = copy_op; first = o; second = constant 0 }

abbrev pub sum_of : Operand → Operand → Expression
sum_of a b = record { op = sum_op; first = a; second = b }

abbrev pub update_when : ℕ → ℕ → ℕ → Expression → Update
update_when condition wanted target x =
    record { condition = condition; wanted = wanted; target = target; op = x.op; first = x.first; second = x.second }

abbrev pub update : ℕ → Expression → Update
update target x = update_when no_variable 0 target x

abbrev pub set_to : ℕ → ℕ → Update
set_to target n = update target (copied (constant n))

-- ---- a rule but for its kind and id
pub record Body : Type 0 where
  pub low : ℕ
  pub high : ℕ
  pub clauses : List (List Atom)
  pub updates : List Update

abbrev pub body : List (List Atom) → List Update → Body
body clauses updates = record { low = 0; high = 0; clauses = clauses; updates = updates }

unfoldable pub stamped : ℕ → ℕ → List Body → List Rule
stamped kind id [] = []
stamped kind id (b ∷ l) = record { head = record { kind = kind; id = id; low = b.low; high = b.high }; clauses = b.clauses; updates = b.updates } ∷ stamped kind id l

-- the rules of one event kind: how many items it has, and each item's rules
pub record Group : Type 0 where
  pub kind : ℕ
  pub count : ℕ
  pub bodies : ℕ → List Body

-- "rules by kind, id, then as here"
unfoldable pub rules_of_groups : List Group → List Rule
rules_of_groups [] = []
rules_of_groups (g ∷ l) = join_below g.count (λ i. stamped g.kind i (g.bodies i)) ++ rules_of_groups l
