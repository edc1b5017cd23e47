-- Guards of DEADLINE and MISS: of the rules that differ by Active, and MISS's by the code, just the right one is enabled.
use Rattle.std.specs.Prelude.{◌≡◌, Bool, ◌&&◌, ◌||◌, List, [], ◌∷◌, ℕ, ◌<◌, ◌≤◌}
use Rattle.std.proofs.Math.Path.{refl, sym, ap}
use Rattle.std.proofs.Common.{◌∙◌, arith, eq-eqb, ne_eqb}
use Rattle.std.proofs.Math.Bool.{true, false, cond, not, and-true, and-false, or-false, and_assoc}
use Rattle.std.proofs.Math.Decide.{ℕ_discrete}
use Rattle.std.proofs.Math.Dec.{eqb}
use Rattle.numbers.specs.declared.Value.{Value}
use Rattle.model_format.specs.declared.Timing.{Timing}
use Rattle.model_format.specs.Model.{max_threads}
use Rattle.model_format.specs.WellFormed.{GoodTiming}
use Rattle.model_semantics.specs.declared.State.{State}
use Rattle.model_semantics.specs.State.{is_active, code_of, length_of, spent_of}
use Rattle.model_semantics.specs.Effects.{rest_code}
use Rattle.model_semantics.specs.Tests.{waiting_execution, execution, completed, is_due, can_meet_deadline, can_miss, waiting_mode, waiting_dispatch}
use Rattle.table_format.specs.Variables.{now_var, active_var, state_var, end_var}
use Rattle.table_format.specs.RuleKinds.{is_one_of}
use Rattle.table_semantics.specs.Rules.{clause_holds, all_hold}
use Rattle.translation.specs.Shown.{bit}
use Rattle.translation.specs.Parts.{Body}
use Rattle.translation.specs.Rules.{deadline_rule, deadline_rules, miss_waiting, miss_running, miss_rules}
use Rattle.simulation.specs.Compared.{Dispatched}
use Rattle.simulation.specs.Match.{Match}
use Rattle.simulation.specs.Groups.{enabled_bodies, per_code, Differ, by_state}
use Rattle.simulation.specs.Guards.{equals_constant, differs_is_not, due_test, end_test, with_code, due_known, end_known}

-- two rules, for Active 1 and 0
by_active : (v : List Value) (a c : Bool) (f : ℕ → ℕ → Body) → ((x y : ℕ) → all_hold v (f x y).clauses ≡ (c && eqb (bit a) x)) →
    enabled_bodies v (f 1 1 ∷ f 0 0 ∷ []) ≡ cond c (f (bit a) (cond a 1 0) ∷ []) []
unfolding enabled_bodies
by_active v a c f h = rw (h 1 1, h 0 0) (go a c)
  where
    go : (a c : Bool) → cond (c && eqb (bit a) 1) (f 1 1 ∷ cond (c && eqb (bit a) 0) (f 0 0 ∷ []) []) (cond (c && eqb (bit a) 0) (f 0 0 ∷ []) []) ≡ cond c (f (bit a) (cond a 1 0) ∷ []) []
    go true true = refl
    go true false = refl
    go false true = refl
    go false false = refl

first_last : (c a x : Bool) → (c && (a && x)) ≡ ((c && x) && a)
first_last true true x = sym (and-true x)
first_last true false x = sym (and-false x)
first_last false a x = refl

-- the rule of MISS for a state
abbrev pub miss_rule : Timing → State → ℕ → Body
miss_rule m s t =
    cond (eqb (code_of s t) waiting_execution) (miss_waiting t (bit (is_active s t)) (rest_code s t)) (miss_running m t (bit (is_active s t)) (rest_code s t))

module _ (m : Timing) (d : Dispatched) (s : State) (v : List Value) (g : GoodTiming m) (h : Match m d s v) (t : ℕ) (l : t < m.threads) where
  deadline_clauses : (x y : ℕ) → all_hold v (deadline_rule m t x y).clauses ≡ (can_meet_deadline m s t && eqb (bit (is_active s t)) x)
  unfolding can_meet_deadline all_hold clause_holds
  deadline_clauses x y =
      let k : m.threads ≤ max_threads = g.threads in
      simp (
        equals_constant v (state_var t) (code_of s t) (h.code t (omega arith)) completed,
        equals_constant v (active_var t) (bit (is_active s t)) (h.active t (omega arith)) x,
        or-false,
        and-true,
      )
      (with_code (code_of s t) completed (λ b. b && eqb (bit (is_active s t)) x) (due_test v t) (is_due m s t) (λ e. due_known m d s v h t l (omega arith))
      ∙ sym (and_assoc (eqb (code_of s t) completed) (is_due m s t) (eqb (bit (is_active s t)) x)))

  pub deadline_enabled : enabled_bodies v (deadline_rules m t) ≡ cond (can_meet_deadline m s t) (deadline_rule m t (bit (is_active s t)) (rest_code s t) ∷ []) []
  unfolding deadline_rules
  deadline_enabled = by_active v (is_active s t) (can_meet_deadline m s t) (deadline_rule m t) deadline_clauses

  waiting_clauses : (x y : ℕ) → all_hold v (miss_waiting t x y).clauses ≡ ((eqb (code_of s t) waiting_execution && is_due m s t) && eqb (bit (is_active s t)) x)
  unfolding all_hold clause_holds
  waiting_clauses x y =
      let k : m.threads ≤ max_threads = g.threads in
      simp (
        equals_constant v (state_var t) (code_of s t) (h.code t (omega arith)) waiting_execution,
        equals_constant v (active_var t) (bit (is_active s t)) (h.active t (omega arith)) x,
        or-false,
        and-true,
      )
      (with_code (code_of s t) waiting_execution (λ b. eqb (bit (is_active s t)) x && b) (due_test v t) (is_due m s t) (λ e. due_known m d s v h t l (omega arith))
      ∙ first_last (eqb (code_of s t) waiting_execution) (eqb (bit (is_active s t)) x) (is_due m s t))

  running_clauses : (x y : ℕ) → all_hold v (miss_running m t x y).clauses ≡ ((eqb (code_of s t) execution && (is_due m s t && not (eqb (spent_of s t) (length_of s t)))) && eqb (bit (is_active s t)) x)
  unfolding all_hold clause_holds
  running_clauses x y =
      let k : m.threads ≤ max_threads = g.threads in
      simp (
        equals_constant v (state_var t) (code_of s t) (h.code t (omega arith)) execution,
        equals_constant v (active_var t) (bit (is_active s t)) (h.active t (omega arith)) x,
        differs_is_not v (end_var t) now_var,
        or-false,
        and-true,
      )
      (with_code (code_of s t) execution (λ b. eqb (bit (is_active s t)) x && (b && not (end_test v t))) (due_test v t) (is_due m s t) (λ e. due_known m d s v h t l (omega arith))
      ∙ with_code (code_of s t) execution (λ b. eqb (bit (is_active s t)) x && (is_due m s t && not b)) (end_test v t) (eqb (spent_of s t) (length_of s t)) (end_known m d s v h t l)
      ∙ first_last (eqb (code_of s t) execution) (eqb (bit (is_active s t)) x) (is_due m s t && not (eqb (spent_of s t) (length_of s t))))

  -- for each code: its rules, what they ask besides it, and the one for Active as it is
  abbrev rules_at : ℕ → List Body
  rules_at c =
      cond (eqb c waiting_execution) (miss_waiting t 1 waiting_dispatch ∷ miss_waiting t 0 waiting_mode ∷ []) (miss_running m t 1 waiting_dispatch ∷ miss_running m t 0 waiting_mode ∷ [])

  abbrev late_at : ℕ → Bool
  late_at c = cond (eqb c waiting_execution) (is_due m s t) (is_due m s t && not (eqb (spent_of s t) (length_of s t)))

  abbrev rule_at : ℕ → Body
  rule_at c = cond (eqb c waiting_execution) (miss_waiting t (bit (is_active s t)) (rest_code s t)) (miss_running m t (bit (is_active s t)) (rest_code s t))

  miss_test : (is_one_of (waiting_execution ∷ execution ∷ []) (code_of s t) && late_at (code_of s t)) ≡ can_miss m s t
  unfolding is_one_of can_miss
  miss_test = go (ℕ_discrete (code_of s t) waiting_execution)
    where
      running : (r x e : Bool) → ((r || false) && (x && not e)) ≡ (x && (r && not e))
      running true x e = refl
      running false x e = sym (and-false x)

      go : Dec (code_of s t ≡ waiting_execution) → (is_one_of (waiting_execution ∷ execution ∷ []) (code_of s t) && late_at (code_of s t)) ≡ can_miss m s t
      go (yes q) = rw (eq-eqb (code_of s t) waiting_execution q) (sym (and-true (is_due m s t)))
      go (no q) = rw (ne_eqb (code_of s t) waiting_execution q) (running (eqb (code_of s t) execution) (is_due m s t) (eqb (spent_of s t) (length_of s t)))

  pub miss_enabled : enabled_bodies v (miss_rules m t) ≡ cond (can_miss m s t) (miss_rule m s t ∷ []) []
  unfolding miss_rules per_code Differ is_one_of
  miss_enabled =
      by_state v (code_of s t) (waiting_execution ∷ execution ∷ []) rules_at rule_at late_at (refl, (refl, tt)) (
        by_active v (is_active s t) (eqb (code_of s t) waiting_execution && is_due m s t) (miss_waiting t) waiting_clauses,
        (by_active v (is_active s t) (eqb (code_of s t) execution && (is_due m s t && not (eqb (spent_of s t) (length_of s t)))) (miss_running m t) running_clauses, tt),
      )
      ∙ ap (λ (b : Bool). cond b (miss_rule m s t ∷ []) []) miss_test
