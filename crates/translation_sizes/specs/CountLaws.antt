-- Laws of counts: how they add up over lists that are made of lists, and in what order.
use Rattle.std.specs.Prelude.{◌≡◌, refl, Bool, true, false, cond, ◌&&◌, List, [], ◌∷◌, ◌++◌, eqb, ltb}
use Rattle.std.proofs.Common.{sym, ◌∙◌, arith, length-append, ne_eqb, eq-eqb, lt-ltb, le-ltb}
use Rattle.std.proofs.Math.Path.{ap}
use Prim.Native.Nat.{ℕ, zero, suc, ◌+◌, ◌<◌}
use Rattle.std.proofs.Math.Decide.{dec_lt, ℕ_discrete}
use Rattle.numbers.specs.Lists.{fold_below, join_below}
use Rattle.table_format.specs.declared.Atom.{Atom}
use Rattle.table_format.specs.declared.Update.{Update}
use Rattle.translation.specs.Parts.{Body, stamped}
use Rattle.translation_sizes.specs.declared.Counts.{Counts}
use Rattle.translation_sizes.specs.Counts.{counts, nothing, ◌and◌, count_below, atoms_in, clauses_counts, updates_counts, rules_counts, bodies_counts}

pub same_counts : {a b c d e f g h : ℕ} → a ≡ e → b ≡ f → c ≡ g → d ≡ h → counts a b c d ≡ counts e f g h
same_counts p q r s = rw (p, q, r, s)

-- ---- sums
pub same_sums : {x y z w : Counts} → x ≡ y → z ≡ w → x and z ≡ y and w
same_sums p q = rw (p, q)

pub and_swap : (x y z w : Counts) → (x and y) and (z and w) ≡ (x and z) and (y and w)
and_swap x y z w = same_counts (omega arith) (omega arith) (omega arith) (omega arith)

pub and_assoc : (x y z : Counts) → (x and y) and z ≡ x and (y and z)
and_assoc x y z = same_counts (omega arith) (omega arith) (omega arith) (omega arith)

pub and_nothing : (x : Counts) → x and nothing ≡ x
and_nothing x = same_counts (omega arith) (omega arith) (omega arith) (omega arith)

pub nothing_and : (x : Counts) → nothing and x ≡ x
nothing_and x = same_counts (omega arith) (omega arith) (omega arith) (omega arith)

pub count_plus : (n : ℕ) (f g : ℕ → Counts) → count_below n (λ i. f i and g i) ≡ count_below n f and count_below n g
unfolding fold_below
count_plus zero f g = refl
count_plus (suc n) f g = rw (count_plus n f g) (and_swap (count_below n f) (count_below n g) (f n) (g n))

pub count_same : (n : ℕ) (f g : ℕ → Counts) → ((i : ℕ) → i < n → f i ≡ g i) → count_below n f ≡ count_below n g
unfolding fold_below
count_same zero f g h = refl
count_same (suc n) f g h = rw (count_same n f g (λ i l. h i (omega arith)), h n (omega arith))

pub count_none : (n : ℕ) → count_below n (λ i. nothing) ≡ nothing
unfolding fold_below
count_none zero = refl
count_none (suc n) = rw (count_none n)

-- only number x counts
pub count_once : (n x : ℕ) (f : ℕ → Counts) → count_below n (λ i. cond (eqb x i) (f i) nothing) ≡ cond (ltb x n) (f x) nothing
unfolding fold_below
count_once zero x f = rw (le-ltb x 0 (omega arith))
count_once (suc n) x f = rw (count_once n x f) (go (dec_lt x n) (ℕ_discrete x n))
  where
    go : Dec (x < n) → Dec (x ≡ n) → cond (ltb x n) (f x) nothing and cond (eqb x n) (f n) nothing ≡ cond (ltb x (suc n)) (f x) nothing
    go (yes l) e = rw (lt-ltb x n l, lt-ltb x (suc n) (omega arith), ne_eqb x n (λ q. omega arith)) (and_nothing (f x))
    go (no l) (yes e) = rw (le-ltb x n (omega arith), lt-ltb x (suc n) (omega arith), eq-eqb x n e, e) (nothing_and (f n))
    go (no l) (no e) = rw (le-ltb x n (omega arith), le-ltb x (suc n) (omega arith), ne_eqb x n e)

-- in each column k only the row x k counts, so that the columns are added up
pub count_rows : (m n : ℕ) (x : ℕ → ℕ) (f : ℕ → ℕ → Counts) → ((k : ℕ) → k < n → x k < m) →
    count_below m (λ t. count_below n (λ k. cond (eqb (x k) t) (f t k) nothing)) ≡ count_below n (λ k. f (x k) k)
unfolding fold_below
count_rows m zero x f h = count_none m
count_rows m (suc n) x f h =
    count_plus m (λ t. count_below n (λ k. cond (eqb (x k) t) (f t k) nothing)) (λ t. cond (eqb (x n) t) (f t n) nothing) ∙
    rw (count_rows m n x f (λ k l. h k (omega arith)), count_once m (x n) (λ t. f t n), lt-ltb (x n) m (h n (omega arith)))

-- two tests, one of which is of the row
pub both_tests : (a b : Bool) (x : Counts) → cond (a && b) x nothing ≡ cond b (cond a x nothing) nothing
both_tests true true x = refl
both_tests true false x = refl
both_tests false true x = refl
both_tests false false x = refl

pub test_then : (a b : Bool) (x : Counts) → cond a (cond b x nothing) nothing ≡ cond (a && b) x nothing
test_then true b x = refl
test_then false b x = refl

-- ---- the same counts n times
pub clauses_each : (n : ℕ) → count_below n (λ i. counts 0 1 1 0) ≡ counts 0 n n 0
unfolding fold_below
clauses_each zero = refl
clauses_each (suc n) = rw (clauses_each n) (same_counts (omega arith) (omega arith) (omega arith) (omega arith))

pub updates_each : (n : ℕ) → count_below n (λ i. counts 0 0 0 1) ≡ counts 0 0 0 n
unfolding fold_below
updates_each zero = refl
updates_each (suc n) = rw (updates_each n) (same_counts (omega arith) (omega arith) (omega arith) (omega arith))

-- ---- lists that are made of lists
module _ {A : Type 0} (count : List A → Counts) (none : count [] ≡ nothing) (both : (l r : List A) → count (l ++ r) ≡ count l and count r) where
  pub count_join : (n : ℕ) (f : ℕ → List A) → count (join_below n f) ≡ count_below n (λ i. count (f i))
  unfolding join_below fold_below
  count_join zero f = none
  count_join (suc n) f = both (join_below n f) (f n) ∙ ap (λ (x : Counts). x and count (f n)) (count_join n f)

  pub count_when : (b : Bool) (l : List A) → count (cond b l []) ≡ cond b (count l) nothing
  count_when true l = refl
  count_when false l = none

pub atoms_append : (l r : List (List Atom)) → atoms_in (l ++ r) ≡ atoms_in l + atoms_in r
unfolding atoms_in
atoms_append [] r = omega arith
atoms_append (c ∷ l) r = omega (arith, atoms_append l r)

pub clauses_append : (l r : List (List Atom)) → clauses_counts (l ++ r) ≡ clauses_counts l and clauses_counts r
clauses_append l r = same_counts refl (length-append l r) (atoms_append l r) refl

pub updates_append : (l r : List Update) → updates_counts (l ++ r) ≡ updates_counts l and updates_counts r
updates_append l r = same_counts refl refl refl (length-append l r)

pub bodies_append : (l r : List Body) → bodies_counts (l ++ r) ≡ bodies_counts l and bodies_counts r
unfolding bodies_counts
bodies_append [] r = sym (nothing_and (bodies_counts r))
bodies_append (b ∷ l) r = rw (bodies_append l r) (sym (and_assoc _ (bodies_counts l) (bodies_counts r)))

pub stamped_counts : (kind id : ℕ) (l : List Body) → rules_counts (stamped kind id l) ≡ bodies_counts l
unfolding rules_counts stamped bodies_counts
stamped_counts kind id [] = refl
stamped_counts kind id (b ∷ l) = rw (stamped_counts kind id l)
