-- What atoms and lists of clauses say of the numbers that their variables hold.
use Rattle.std.specs.Prelude.{◌≡◌, refl, Bool, true, false, cond, ◌&&◌, ◌||◌, not, List, [], ◌∷◌, ◌++◌, ℕ, zero, suc, ◌+◌, ◌-◌, ◌<◌, ◌≤◌, eqb, ltb}
use Rattle.std.proofs.Common.{sym, ◌∙◌, arith, eq-eqb, ne_eqb}
use Rattle.std.proofs.Math.Bool.{and_assoc, or_assoc}
use Rattle.std.proofs.Math.Decide.{ℕ_discrete}
use Rattle.numbers.specs.declared.Value.{Value}
use Rattle.numbers.specs.Lists.{any_below, all_below, join_below}
use Rattle.numbers.specs.Values.{natural, compares}
use Rattle.numbers.specs.Multiples.{is_multiple}
use Rattle.model_format.specs.declared.Timing.{Timing}
use Rattle.model_semantics.specs.declared.State.{State}
use Rattle.model_semantics.specs.State.{code_of, length_of, spent_of, now_of}
use Rattle.model_semantics.specs.Tests.{waiting_execution, execution, due_of, is_due}
use Rattle.table_format.specs.declared.Atom.{Atom}
use Rattle.table_format.specs.Variables.{now_var, due_var, end_var}
use Rattle.table_semantics.specs.Rules.{value_of, operand_value, holds_op, holds, clause_holds, all_hold}
use Rattle.translation.specs.Shown.{bit}
use Rattle.translation.specs.Parts.{constant, variable, equals, differs, is_below, is_at_least, multiple_of, no_multiple_of}
use Rattle.simulation.specs.Compared.{Dispatched}
use Rattle.simulation.specs.Match.{Match}

-- ---- Bools
pub not_or : (a b : Bool) → not (a || b) ≡ (not a && not b)
not_or true b = refl
not_or false b = refl

pub not_and : (a b : Bool) → not (a && b) ≡ (not a || not b)
not_and true b = refl
not_and false b = refl

pub bit_zero : (b : Bool) → eqb (bit b) 0 ≡ not b
bit_zero true = refl
bit_zero false = refl

pub bit_one : (b : Bool) → eqb (bit b) 1 ≡ b
bit_one true = refl
bit_one false = refl

pub eqb_swap : (a b : ℕ) → eqb a b ≡ eqb b a
eqb_swap a b = go (ℕ_discrete a b)
  where
    go : Dec (a ≡ b) → eqb a b ≡ eqb b a
    go (yes e) = rw e
    go (no n) = rw (ne_eqb a b n, ne_eqb b a (λ q. n (sym q)))

-- ---- atoms, where variable j holds the number x
module _ (v : List Value) (j x : ℕ) (e : value_of v j ≡ natural x) where
  pub equals_constant : (c : ℕ) → holds v (equals j (constant c)) ≡ eqb x c
  unfolding holds holds_op compares operand_value
  equals_constant c = rw e

  pub differs_constant : (c : ℕ) → holds v (differs j (constant c)) ≡ not (eqb x c)
  unfolding holds holds_op compares operand_value
  differs_constant c = rw e

  pub below_constant : (c : ℕ) → holds v (is_below j (constant c)) ≡ ltb x c
  unfolding holds holds_op compares operand_value
  below_constant c = rw e

  pub at_least_constant : (c : ℕ) → holds v (is_at_least j (constant c)) ≡ not (ltb x c)
  unfolding holds holds_op compares operand_value
  at_least_constant c = rw e

  pub multiple_of_constant : (c : ℕ) → holds v (multiple_of j (constant c)) ≡ is_multiple x c
  unfolding holds holds_op compares operand_value
  multiple_of_constant c = rw e

  pub no_multiple_of_constant : (c : ℕ) → holds v (no_multiple_of j (constant c)) ≡ not (is_multiple x c)
  unfolding holds holds_op compares operand_value
  no_multiple_of_constant c = rw e

  -- and variable k the number y
  module _ (k y : ℕ) (f : value_of v k ≡ natural y) where
    pub equals_variable : holds v (equals j (variable k)) ≡ eqb x y
    unfolding holds holds_op compares operand_value
    equals_variable = rw (e, f)

    pub differs_variable : holds v (differs j (variable k)) ≡ not (eqb x y)
    unfolding holds holds_op compares operand_value
    differs_variable = rw (e, f)

-- what a variable holds may be unknown
pub differs_is_not : (v : List Value) (j k : ℕ) → holds v (differs j (variable k)) ≡ not (holds v (equals j (variable k)))
unfolding holds holds_op compares operand_value
differs_is_not v j k = refl

-- ---- lists of clauses and of atoms
pub all_append : (v : List Value) (a b : List (List Atom)) → all_hold v (a ++ b) ≡ (all_hold v a && all_hold v b)
unfolding all_hold
all_append v [] b = refl
all_append v (c ∷ a) b = rw (all_append v a b) (sym (and_assoc (clause_holds v c) (all_hold v a) (all_hold v b)))

pub clause_append : (v : List Value) (a b : List Atom) → clause_holds v (a ++ b) ≡ (clause_holds v a || clause_holds v b)
unfolding clause_holds
clause_append v [] b = refl
clause_append v (x ∷ a) b = rw (clause_append v a b) (sym (or_assoc (holds v x) (clause_holds v a) (clause_holds v b)))

-- clauses of items below n: each says that its item does not pass p
pub all_but : (v : List Value) (n : ℕ) (f : ℕ → List (List Atom)) (p : ℕ → Bool) → ((i : ℕ) → i < n → all_hold v (f i) ≡ not (p i)) →
    all_hold v (join_below n f) ≡ not (any_below n p)
unfolding join_below any_below all_hold
all_but v zero f p h = refl
all_but v (suc n) f p h =
    rw (all_append v (join_below n f) (f n), all_but v n f p (λ i l. h i (omega arith)), h n (omega arith)) (sym (not_or (any_below n p) (p n)))

-- each says that its item passes
pub all_of : (v : List Value) (n : ℕ) (f : ℕ → List (List Atom)) (p : ℕ → Bool) → ((i : ℕ) → i < n → all_hold v (f i) ≡ p i) →
    all_hold v (join_below n f) ≡ all_below n p
unfolding join_below all_below all_hold
all_of v zero f p h = refl
all_of v (suc n) f p h = rw (all_append v (join_below n f) (f n), all_of v n f p (λ i l. h i (omega arith)), h n (omega arith))

-- one clause, whose atoms say that an item does not pass
pub some_not : (v : List Value) (n : ℕ) (f : ℕ → List Atom) (p : ℕ → Bool) → ((i : ℕ) → i < n → clause_holds v (f i) ≡ not (p i)) →
    clause_holds v (join_below n f) ≡ not (all_below n p)
unfolding join_below all_below clause_holds
some_not v zero f p h = refl
some_not v (suc n) f p h =
    rw (clause_append v (join_below n f) (f n), some_not v n f p (λ i l. h i (omega arith)), h n (omega arith)) (sym (not_and (all_below n p) (p n)))

-- a connection of kind k into the thread, with live f and the rest w
pub into : (v : List Value) (k i f w : Bool) (c : List (List Atom)) → all_hold v c ≡ (not f || not w) → all_hold v (cond (k && i) c []) ≡ not ((k && (i && f)) && w)
unfolding all_hold
into v true true f w c e = e ∙ sym (not_and f w)
into v true false f w c e = refl
into v false i f w c e = refl

-- ---- variables of a matching state that are known of some codes only
-- what the table tests of Due and End
abbrev pub due_test : List Value → ℕ → Bool
due_test v t = holds v (equals (due_var t) (variable now_var))

abbrev pub end_test : List Value → ℕ → Bool
end_test v t = holds v (equals (end_var t) (variable now_var))

-- beside a test of the code, x is y
pub with_code : (k c : ℕ) (p : Bool → Bool) (x y : Bool) → (k ≡ c → x ≡ y) → (eqb k c && p x) ≡ (eqb k c && p y)
with_code k c p x y e = go (ℕ_discrete k c)
  where
    go : Dec (k ≡ c) → (eqb k c && p x) ≡ (eqb k c && p y)
    go (yes q) = rw (e q)
    go (no q) = rw (ne_eqb k c q)

module _ (m : Timing) (d : Dispatched) (s : State) (v : List Value) (h : Match m d s v) (t : ℕ) (l : t < m.threads) where
  pub due_known : waiting_execution ≤ code_of s t → due_test v t ≡ is_due m s t
  due_known b = equals_variable v (due_var t) (due_of m s t) (h.due t l (h.reached.begun t b)) now_var (now_of s) h.now

  pub end_known : code_of s t ≡ execution → end_test v t ≡ eqb (spent_of s t) (length_of s t)
  end_known e =
      equals_variable v (end_var t) (now_of s + (length_of s t - spent_of s t)) (h.end t l e) now_var (now_of s) h.now ∙
      same (now_of s) (length_of s t) (spent_of s t) (h.reached.ran t e) (ℕ_discrete _ _)
    where
      same : (now long spent : ℕ) → spent ≤ long → Dec (spent ≡ long) → eqb (now + (long - spent)) now ≡ eqb spent long
      same now long spent b (yes e) = rw e (eq-eqb (now + (long - long)) now (omega arith) ∙ sym (eq-eqb long long refl))
      same now long spent b (no e) = rw (ne_eqb spent long e) (ne_eqb (now + (long - spent)) now (λ q. e (omega arith)))
