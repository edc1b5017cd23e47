-- What rules mean: atoms, clauses, enabled rules, and updates.
use Rattle.std.specs.Prelude.{Bool, true, false, cond, ◌&&◌, ◌||◌, not, List, [], ◌∷◌, ℕ, eqb, ltb, nat_abs}
use Rattle.numbers.specs.declared.Value.{Value}
use Rattle.numbers.specs.Lists.{item, store}
use Rattle.numbers.specs.Values.{value, natural, signed, bits_of, combine, compares, same_value}
use Rattle.numbers.specs.Multiples.{is_multiple}
use Rattle.records.specs.declared.Operand.{Operand}
use Rattle.records.specs.Format.{constant_tag}
use Rattle.table_format.specs.declared.Atom.{Atom}
use Rattle.table_format.specs.declared.Update.{Update}
use Rattle.table_format.specs.Variables.{variables, no_variable}
use Rattle.table_format.specs.Format.{variable_tag, multiple_op}
use Rattle.table_format.specs.Table.{Rule}

-- variable j; one that is not there reads 0
abbrev pub value_of : List Value → ℕ → Value
value_of v j = item variables v j (natural 0)

-- "tag 0 constant, 1 variable, 2 chosen length"; n is the chosen length
unfoldable pub operand_value : ℕ → List Value → Operand → Value
operand_value n v o =
    cond (eqb o.tag constant_tag) o.value (cond (eqb o.tag variable_tag) (value_of v (bits_of o.value.0)) (value (signed n)))

-- "Ops 6 and 7: (not) a multiple of a constant above 0."
unfoldable pub holds_op : ℕ → Value → Value → Bool
holds_op op x y =
    cond (ltb op multiple_op) (compares op x y)
    (cond (eqb op multiple_op) (is_multiple (nat_abs x.0) (bits_of y.0)) (not (is_multiple (nat_abs x.0) (bits_of y.0))))

unfoldable pub holds : List Value → Atom → Bool
holds v a = holds_op a.op (value_of v a.variable) (operand_value 0 v a.right)

-- "A clause holds if one atom does; an empty one never."
unfoldable pub clause_holds : List Value → List Atom → Bool
clause_holds v [] = false
clause_holds v (a ∷ l) = holds v a || clause_holds v l

-- "A rule is enabled if all clauses hold."
unfoldable pub all_hold : List Value → List (List Atom) → Bool
all_hold v [] = true
all_hold v (c ∷ l) = clause_holds v c && all_hold v l

abbrev pub is_enabled : List Value → Rule → Bool
is_enabled v r = all_hold v r.clauses

-- the enabled rules of a kind and id
unfoldable pub enabled_rules : List Value → ℕ → ℕ → List Rule → List Rule
enabled_rules v kind id [] = []
enabled_rules v kind id (r ∷ l) =
    let rest = enabled_rules v kind id l in
    cond ((eqb r.head.kind kind && eqb r.head.id id) && is_enabled v r) (r ∷ rest) rest

-- ---- updates
-- the condition of an update: none, or a variable that has the wanted value
unfoldable pub applies : List Value → Update → Bool
applies v u = eqb u.condition no_variable || same_value (value_of v u.condition) (natural u.wanted)

abbrev pub new_value : ℕ → List Value → Update → Value
new_value n v u = combine u.op (operand_value n v u.first) (operand_value n v u.second)

-- a variable that is written, and its value
pub record Write : Type 0 where
  pub target : ℕ
  pub value : Value

-- "updates read old values": what the applied updates write
unfoldable pub writes : ℕ → List Value → List Update → List Write
writes n v [] = []
writes n v (u ∷ l) =
    let rest = writes n v l in
    cond (applies v u) (record { target = u.target; value = new_value n v u } ∷ rest) rest

unfoldable pub written_to : ℕ → List Write → Bool
written_to j [] = false
written_to j (w ∷ l) = eqb j w.target || written_to j l

-- "two applied updates of a target"
unfoldable pub inconsistent : List Write → Bool
inconsistent [] = false
inconsistent (w ∷ l) = written_to w.target l || inconsistent l

unfoldable pub written : List Write → List Value → List Value
written [] v = v
written (w ∷ l) v = written l (store variables v w.target w.value)
