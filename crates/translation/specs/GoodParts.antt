-- Parts of rules that a reader of the table accepts: one law for each way to make them.
use Rattle.std.specs.Prelude.{◌≡◌, refl, Bool, true, false, cond, List, [], ◌∷◌, ℕ, ◌^◌, ◌<◌, ◌≤◌, eqb}
use Rattle.std.proofs.Common.{arith, SFits}
use Rattle.std.specs.Int.{w32}
use borrow.Author.Tests.{lt-ltb, le-ltb, le-leb, ne_eqb}
use Rattle.records.specs.declared.Operand.{Operand}
use Rattle.records.specs.Events.{start_kind}
use Rattle.numbers.specs.Lists.{join_below}
use Rattle.table_format.specs.Variables.{variables, no_variable}
use Rattle.table_format.specs.RuleKinds.{has_rules}
use Rattle.table_format.specs.VariableLaws.{variable_there}
use Rattle.table_format.specs.Reading.{operand_fits, longest_length, head_fits, atom_fits, update_fits}
use Rattle.table_format.specs.All.{All, all_append, all_join}
use Rattle.table_format.specs.WellFormed.{GoodAtom, GoodUpdate, GoodRule}
use Rattle.translation.specs.Parts.{constant, variable, chosen_length, Expression, copied, sum_of, update_when, update, set_to, Body, stamped, Group, rules_of_groups}

-- ---- operands: of updates of START rules where the chosen length may stand
pub record GoodOperand (may_choose : Bool) (o : Operand) : Type 0 where
  pub fits : operand_fits may_choose o ≡ true
  pub value : SFits w32 o.value.0

pub constant_good : (b : Bool) (n : ℕ) → n < 2 ^ 31 → GoodOperand b (constant n)
unfolding operand_fits
constant_good b n h = record { fits = refl; value = record { sfits = h } }

pub variable_good : (b : Bool) (j : ℕ) → j < variables → GoodOperand b (variable j)
unfolding operand_fits
variable_good b j h = record { fits = rw (le-leb 0 j (omega arith), variable_there j h); value = record { sfits = omega arith } }

pub length_good : GoodOperand true chosen_length
unfolding operand_fits
length_good = record { fits = refl; value = record { sfits = omega arith } }

-- ---- atoms
-- the comparisons
pub compare_good : (op j : ℕ) (o : Operand) → op < 6 → j < variables → GoodOperand false o → GoodAtom (record { op = op; variable = j; right = o })
unfolding atom_fits
compare_good op j o h l g = record { fits = rw (lt-ltb op 8 (omega arith), lt-ltb op 6 h, variable_there j l, g.fits); right = g.value }

pub constant_compare : (op j n : ℕ) → op < 6 → j < variables → n < 2 ^ 31 → GoodAtom (record { op = op; variable = j; right = constant n })
constant_compare op j n h l k = compare_good op j (constant n) h l (constant_good false n k)

pub variable_compare : (op j i : ℕ) → op < 6 → j < variables → i < variables → GoodAtom (record { op = op; variable = j; right = variable i })
variable_compare op j i h l k = compare_good op j (variable i) h l (variable_good false i k)

-- "Ops 6 and 7: (not) a multiple of a constant above 0."
pub multiple_good : (op j n : ℕ) → 6 ≤ op → op < 8 → j < variables → 0 < n → n < 2 ^ 31 → GoodAtom (record { op = op; variable = j; right = constant n })
unfolding atom_fits
multiple_good op j n l h k p q = record { fits = rw (lt-ltb op 8 h, le-ltb op 6 l, variable_there j k, lt-ltb 0 n p); right = record { sfits = q } }

-- ---- updates in rules for events of a kind
pub record GoodExpression (kind : ℕ) (x : Expression) : Type 0 where
  pub op : x.op < 3
  pub first : GoodOperand (eqb kind start_kind) x.first
  pub second : GoodOperand (eqb kind start_kind) x.second

pub copied_good : (kind : ℕ) (o : Operand) → GoodOperand (eqb kind start_kind) o → GoodExpression kind (copied o)
copied_good kind o g = record { op = omega arith; first = g; second = constant_good (eqb kind start_kind) 0 (omega arith) }

pub taken_good : (kind j : ℕ) → j < variables → GoodExpression kind (copied (variable j))
taken_good kind j h = copied_good kind (variable j) (variable_good (eqb kind start_kind) j h)

pub sum_good : (kind : ℕ) (a b : Operand) → GoodOperand (eqb kind start_kind) a → GoodOperand (eqb kind start_kind) b → GoodExpression kind (sum_of a b)
sum_good kind a b g h = record { op = omega arith; first = g; second = h }

module _ (kind target : ℕ) (x : Expression) (l : 0 < target) (h : target < variables) (g : GoodExpression kind x) where
  pub update_good : GoodUpdate kind (update target x)
  unfolding update_fits
  update_good = record {
    fits = rw (lt-ltb 0 target l, variable_there target h, lt-ltb x.op 3 g.op, g.first.fits, g.second.fits);
    wanted = omega arith;
    first = g.first.value;
    second = g.second.value;
  }

  pub when_good : (condition wanted : ℕ) → condition < variables → wanted < 256 → GoodUpdate kind (update_when condition wanted target x)
  unfolding update_fits
  when_good condition wanted c w = record {
    fits = rw (ne_eqb condition no_variable (λ e. omega arith), variable_there condition c, lt-ltb 0 target l, variable_there target h, lt-ltb x.op 3 g.op, g.first.fits, g.second.fits);
    wanted = w;
    first = g.first.value;
    second = g.second.value;
  }

pub set_good : (kind target n : ℕ) → 0 < target → target < variables → n < 2 ^ 31 → GoodUpdate kind (set_to target n)
set_good kind target n l h k = update_good kind target (copied (constant n)) l h (copied_good kind (constant n) (constant_good (eqb kind start_kind) n k))

-- ---- rules but for their ids
pub record GoodBody (kind : ℕ) (b : Body) : Type 0 where
  pub shortest : b.low ≤ b.high
  pub longest : b.high ≤ cond (eqb kind start_kind) longest_length 0
  pub clauses : All (All GoodAtom) b.clauses
  pub updates : All (GoodUpdate kind) b.updates

pub record GoodGroup (g : Group) : Type 0 where
  pub known : has_rules g.kind ≡ true
  pub count : g.count ≤ 256
  pub bodies : (i : ℕ) → i < g.count → All (GoodBody g.kind) (g.bodies i)

stamped_good : (kind id : ℕ) (l : List Body) → has_rules kind ≡ true → id < 256 → All (GoodBody kind) l → All GoodRule (stamped kind id l)
unfolding stamped head_fits
stamped_good kind id [] a c h = tt
stamped_good kind id (x ∷ l) a c h = (
  record {
    head = rw (a, le-leb x.low x.high h.0.shortest, le-leb x.high (cond (eqb kind start_kind) longest_length 0) h.0.longest);
    id = c;
    clauses = h.0.clauses;
    updates = h.0.updates;
  },
  stamped_good kind id l a c h.1,
)

pub groups_good : (l : List Group) → All GoodGroup l → All GoodRule (rules_of_groups l)
unfolding rules_of_groups
groups_good [] h = tt
groups_good (g ∷ l) h =
    let x = h.0 in
    all_append GoodRule (join_below g.count (λ i. stamped g.kind i (g.bodies i))) (rules_of_groups l)
    (all_join GoodRule g.count (λ i. stamped g.kind i (g.bodies i))
    (λ i k. stamped_good g.kind i (g.bodies i) x.known (let c : g.count ≤ 256 = x.count in omega arith) (x.bodies i k)))
    (groups_good l h.1)
