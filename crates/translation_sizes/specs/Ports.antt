-- Input ports that immediate connections feed are as many as those connections: no port is connected twice.
use Rattle.std.specs.Prelude.{◌≡◌, refl, Bool, true, false, ◌&&◌, ℕ, zero, suc, ◌<◌, eqb, ltb}
use Rattle.std.proofs.Common.{sym, ◌∙◌, arith, eqb-true, lt-ltb, le-ltb, ltb-true}
use Rattle.std.proofs.Math.Bool.{cond}
use Rattle.std.proofs.lemmas.Bool.{false≢true}
use Rattle.numbers.specs.Lists.{fold_below, first_below}
use Rattle.model_format.specs.declared.Timing.{Timing}
use Rattle.model_format.specs.Model.{connection_at, immediate, is_kind}
use Rattle.model_format.specs.WellFormed.{GoodTiming}
use Rattle.translation.specs.Rules.{feeds_at_once, immediate_into, is_immediate_port}
use Rattle.translation_sizes.specs.declared.Counts.{Counts}
use Rattle.translation_sizes.specs.Counts.{nothing, ◌and◌, count_below}
use Rattle.translation_sizes.specs.CountLaws.{and_nothing, nothing_and, count_same, count_rows, both_tests}

-- the first number that passes does
first_passes : (n : ℕ) (p : ℕ → Bool) → first_below n p < n → p (first_below n p) ≡ true
unfolding first_below
first_passes zero p l = absurd (omega arith)
first_passes (suc n) p l = go (first_passes n p) (ltb (first_below n p) n) (p n) refl refl l
  where
    go : (first_below n p < n → p (first_below n p) ≡ true) → (a b : Bool) → ltb (first_below n p) n ≡ a → p n ≡ b → cond a (first_below n p) (cond b n (suc n)) < suc n → p (cond a (first_below n p) (cond b n (suc n))) ≡ true
    go ih true b e f l = ih (ltb-true (first_below n p) n e)
    go ih false true e f l = f
    go ih false false e f l = absurd (omega arith)

-- where at most one number passes
first_counted : (n : ℕ) (p : ℕ → Bool) (x : Counts) → ((i j : ℕ) → i < j → j < n → p i ≡ true → p j ≡ true → ⊥) →
    cond (ltb (first_below n p) n) x nothing ≡ count_below n (λ i. cond (p i) x nothing)
unfolding first_below fold_below
first_counted zero p x h = refl
first_counted (suc n) p x h = rw (← first_counted n p x (λ i j l k. h i j l (omega arith))) (go (ltb (first_below n p) n) (p n) refl refl)
  where
    go : (a b : Bool) → ltb (first_below n p) n ≡ a → p n ≡ b →
        cond (ltb (cond a (first_below n p) (cond b n (suc n))) (suc n)) x nothing ≡ cond a x nothing and cond b x nothing
    go true true e f = let l = ltb-true (first_below n p) n e in absurd (h (first_below n p) n l (omega arith) (first_passes n p l) f)
    go true false e f = let l = ltb-true (first_below n p) n e in rw (lt-ltb (first_below n p) (suc n) (omega arith)) (sym (and_nothing x))
    go false true e f = rw (lt-ltb n (suc n) (omega arith)) (sym (nothing_and x))
    go false false e f = rw (le-ltb (suc n) (suc n) (omega arith))

module _ (m : Timing) (g : GoodTiming m) (x : Counts) where
  abbrev fed : ℕ → Bool
  fed c = is_kind m immediate c

  fed_once : (i c e : ℕ) → c < e → e < m.connections → feeds_at_once m i c ≡ true → feeds_at_once m i e ≡ true → ⊥
  fed_once i c e l k p q = g.single c e l k (target i c p ∙ sym (target i e q))
    where
      right : (a b : Bool) → (a && b) ≡ true → b ≡ true
      right true b h = h
      right false b h = absurd (false≢true h)

      target : (i c : ℕ) → feeds_at_once m i c ≡ true → (connection_at m c).target ≡ i
      target i c h = eqb-true (connection_at m c).target i (right (fed c) (eqb (connection_at m c).target i) h)

  pub ports_counted : count_below m.inputs (λ i. cond (is_immediate_port m i) x nothing) ≡ count_below m.connections (λ c. cond (fed c) x nothing)
  unfolding immediate_into
  ports_counted =
      count_same m.inputs (λ i. cond (is_immediate_port m i) x nothing) (λ i. count_below m.connections (λ c. cond (eqb (connection_at m c).target i) (cond (fed c) x nothing) nothing))
      (λ i l. first_counted m.connections (feeds_at_once m i) x (fed_once i) ∙
      count_same m.connections (λ c. cond (feeds_at_once m i c) x nothing) (λ c. cond (eqb (connection_at m c).target i) (cond (fed c) x nothing) nothing) (λ c k. both_tests (fed c) (eqb (connection_at m c).target i) x)) ∙
      count_rows m.inputs m.connections (λ c. (connection_at m c).target) (λ i c. cond (fed c) x nothing) g.target
