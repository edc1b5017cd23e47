-- The guard of COMPLETE: of a thread's rules just that of the first open transition is enabled, or the default rule where none is open.
use Rattle.std.proofs.Math.Path.{◌≡◌, refl, sym, ap}
use Rattle.std.proofs.Common.{◌∙◌, arith}
use Rattle.std.specs.Prelude.{Bool, ◌&&◌, ◌||◌, List, [], ◌∷◌, ◌++◌, ltb}
use Rattle.std.proofs.Math.Bool.{true, false, cond, not, and-true, and-false, or-false, and_assoc, not-not}
use Prim.Native.Nat.{ℕ, zero, suc, ◌<◌, ◌≤◌}
use Rattle.std.proofs.Math.Decide.{ℕ_discrete}
use Rattle.std.proofs.Math.Dec.{eqb}
use borrow.Author.Tests.{eq-eqb, ne_eqb, eqb-true, lt-ltb, le-ltb, ltb-true}
use Rattle.numbers.specs.declared.Value.{Value}
use Rattle.numbers.specs.Lists.{any_below, all_below, first_below, join_below}
use Rattle.numbers.specs.Values.{bits_of, compares}
use Rattle.records.specs.declared.Operand.{Operand}
use Rattle.model_format.specs.declared.Atom.{Atom}
use Rattle.model_format.specs.declared.Timing.{Timing}
use Rattle.model_format.specs.declared.Behavior.{Behavior}
use Rattle.model_format.specs.declared.Model.{Model}
use Rattle.model_format.specs.Model.{max_threads, max_inputs, max_locals, transition_at, atom_at, input_tag, local_tag}
use Rattle.model_format.specs.Reading.{names_item}
use Rattle.model_format.specs.WellFormed.{GoodTiming, GoodOperand, GoodAtom, WellFormed}
use Rattle.model_semantics.specs.declared.State.{State}
use Rattle.model_semantics.specs.State.{code_of, length_of, spent_of, behavior_of, input_value, local_value}
use Rattle.model_semantics.specs.Effects.{left_value, atom_holds, is_open, first_open, operand_value as model_value}
use Rattle.model_semantics.specs.Tests.{execution, can_complete}
use Rattle.table_format.specs.declared.Atom as table-atom
use Rattle.table_format.specs.Variables.{behavior_var, state_var}
use Rattle.table_semantics.specs.Rules.{value_of, operand_value, holds_op, holds, clause_holds, all_hold}
use Rattle.translation.specs.Parts.{negated_op, Body}
use Rattle.translation.specs.Rules.{variable_of, operand_of, atom_with, guard_clauses, negated_guard, per_transition, earlier_clause, otherwise_clause, transition_rule, default_rule, complete_rules}
use Rattle.simulation.specs.Compared.{Dispatched}
use Rattle.simulation.specs.Match.{Match}
use Rattle.simulation.specs.Groups.{enabled_bodies, enabled_append, single_enabled}
use Rattle.simulation.specs.Guards.{not_and, eqb_swap, equals_constant, differs_constant, all_append, all_but, all_of, some_not, end_test, with_code, end_known}

-- ---- the opposite comparison says the opposite
negated_op_lem : (op : ℕ) (x y : Value) → op < 6 → holds_op (negated_op op) x y ≡ not (compares op x y)
unfolding holds_op negated_op compares
negated_op_lem zero x y b = refl
negated_op_lem (suc zero) x y b = sym (not-not _)
negated_op_lem (suc (suc zero)) x y b = refl
negated_op_lem (suc (suc (suc zero))) x y b = sym (not-not _)
negated_op_lem (suc (suc (suc (suc zero)))) x y b = refl
negated_op_lem (suc (suc (suc (suc (suc zero))))) x y b = sym (not-not _)
negated_op_lem (suc (suc (suc (suc (suc (suc op)))))) x y b = absurd (omega arith)

-- ---- values of ports and locals
module _ (m : Timing) (d : Dispatched) (s : State) (v : List Value) (g : GoodTiming m) (h : Match m d s v) where
  -- an input port or a local
  pub place_same : (tag n : ℕ) → ((tag ≡ input_tag → ⊥) → tag ≡ local_tag) → names_item m tag n ≡ true →
      value_of v (variable_of tag n) ≡ cond (eqb tag input_tag) (input_value s.ports n) (local_value s.ports n)
  unfolding variable_of names_item
  place_same tag n q e = go (ℕ_discrete tag input_tag)
    where
      go : Dec (tag ≡ input_tag) → value_of v (variable_of tag n) ≡ cond (eqb tag input_tag) (input_value s.ports n) (local_value s.ports n)
      go (yes a) =
          let l : n < m.inputs = ltb-true n m.inputs (rw a at e) in
          let k : m.inputs ≤ max_inputs = g.inputs in
          rw a (h.input n (omega arith))
      go (no a) =
          let b : tag ≡ local_tag = q a in
          let l : n < m.locals = ltb-true n m.locals (rw b at e) in
          let k : m.locals ≤ max_locals = g.locals in
          rw b (h.local n (omega arith))

  -- an operand; n is the chosen length, which no operand of a model asks for
  pub operand_same : (n : ℕ) (o : Operand) → GoodOperand m o → operand_value n v (operand_of o) ≡ model_value s.ports o
  unfolding operand_value operand_of model_value
  operand_same n o w = go (ℕ_discrete o.tag 0)
    where
      go : Dec (o.tag ≡ 0) → operand_value n v (operand_of o) ≡ model_value s.ports o
      go (yes a) = rw (eq-eqb o.tag 0 a, eq-eqb o.tag 0 a)
      go (no a) =
          let l : o.tag < 3 = ltb-true o.tag 3 w.tag in
          rw (ne_eqb o.tag 0 a) (place_same o.tag (bits_of o.value.0) (λ b. omega arith) w.names)

  left_same : (a : Atom) → GoodAtom m a → value_of v (variable_of a.tag a.number) ≡ left_value s.ports a
  unfolding left_value
  left_same a w = place_same a.tag a.number (λ b. second (eqb a.tag input_tag) (eqb a.tag local_tag) refl refl w.tag b) w.names
    where
      second : (x y : Bool) → eqb a.tag input_tag ≡ x → eqb a.tag local_tag ≡ y → (x || y) ≡ true → (a.tag ≡ input_tag → ⊥) → a.tag ≡ local_tag
      second true y p q e n = absurd (n (eqb-true a.tag input_tag p))
      second false true p q e n = eqb-true a.tag local_tag q
      second false false p q e n = let z : ◌≡◌ {A = ℕ} 0 1 = cc in absurd (omega arith)

  atom_same : (a : Atom) → GoodAtom m a → holds v (atom_with (λ op. op) a) ≡ atom_holds s.ports a
  unfolding holds holds_op atom_holds
  atom_same a w = rw (lt-ltb a.op 6 w.op, left_same a w, operand_same 0 a.right w.right)

  negated_same : (a : Atom) → GoodAtom m a → holds v (atom_with negated_op a) ≡ not (atom_holds s.ports a)
  unfolding holds atom_holds
  negated_same a w = rw (left_same a w, operand_same 0 a.right w.right) (negated_op_lem a.op _ _ w.op)

-- the atoms of transition k hold
abbrev pub guard_holds : Behavior → State → ℕ → Bool
guard_holds b s k = all_below (transition_at b k).atoms (λ j. atom_holds s.ports (atom_at b k j))

-- transition k of thread t is open in behaviour state f
abbrev opens_in : Behavior → State → ℕ → ℕ → ℕ → Bool
opens_in b s t f k = eqb (transition_at b k).thread t && (eqb (transition_at b k).from f && guard_holds b s k)

-- ---- Bools
-- clauses that stand where a passes
where_passes : (v : List Value) (a c : Bool) (x : List (List table-atom.Atom)) → all_hold v x ≡ not c → all_hold v (cond a x []) ≡ not (a && c)
unfolding all_hold
where_passes v true c x e = e
where_passes v false c x e = refl

-- a test that the behaviour state b is f, and what is asked of f
at_state : (b f : ℕ) (p : ℕ → Bool) → (eqb b f && p f) ≡ (eqb f b && p b)
at_state b f p = go (ℕ_discrete b f)
  where
    go : Dec (b ≡ f) → (eqb b f && p f) ≡ (eqb f b && p b)
    go (yes e) = rw e
    go (no n) = rw (ne_eqb b f n, ne_eqb f b (λ q. n (sym q)))

-- ---- clauses of rules
module _ (m : Model) (d : Dispatched) (s : State) (v : List Value) (w : WellFormed m) (h : Match m.timing d s v) where
  guard_clauses_lem : (k : ℕ) → k < m.behavior.transitions → all_hold v (guard_clauses m.behavior k) ≡ guard_holds m.behavior s k
  unfolding guard_clauses all_hold clause_holds
  guard_clauses_lem k l =
      all_of v (transition_at m.behavior k).atoms _ _ (λ j b.
      rw (atom_same m.timing d s v w.timing h (atom_at m.behavior k j) (w.behavior.atom k j l b)) (and-true _ ∙ or-false _))

  negated_guard_lem : (k : ℕ) → k < m.behavior.transitions → clause_holds v (negated_guard m.behavior k) ≡ not (guard_holds m.behavior s k)
  unfolding negated_guard clause_holds
  negated_guard_lem k l =
      some_not v (transition_at m.behavior k).atoms _ _ (λ j b.
      rw (negated_same m.timing d s v w.timing h (atom_at m.behavior k j) (w.behavior.atom k j l b)) (or-false _))

  module _ (t : ℕ) (l : t < m.timing.threads) where
    earlier_clauses : (k : ℕ) → k ≤ m.behavior.transitions →
        all_hold v (per_transition m.behavior t k (earlier_clause m.behavior k)) ≡ not (any_below k (opens_in m.behavior s t (transition_at m.behavior k).from))
    unfolding all_hold
    earlier_clauses k b =
        all_but v k _ _ (λ e a.
        where_passes v (eqb (transition_at m.behavior e).thread t) _ _
        (where_passes v (eqb (transition_at m.behavior e).from (transition_at m.behavior k).from) (guard_holds m.behavior s e) (negated_guard m.behavior e ∷ [])
        (and-true _ ∙ negated_guard_lem e (omega arith))))

    otherwise_clauses : (n : ℕ) → n ≤ m.behavior.transitions → all_hold v (per_transition m.behavior t n (otherwise_clause m.behavior t)) ≡ not (any_below n (is_open m.behavior s t))
    unfolding is_open all_hold clause_holds
    otherwise_clauses n b =
        let k : m.timing.threads ≤ max_threads = w.timing.threads in
        all_but v n _ _ (λ e a.
        where_passes v (eqb (transition_at m.behavior e).thread t) (eqb (transition_at m.behavior e).from (behavior_of s t) && guard_holds m.behavior s e)
        (otherwise_clause m.behavior t e)
        (rw (
          differs_constant v (behavior_var t) (behavior_of s t) (h.behavior t (omega arith)) (transition_at m.behavior e).from,
          negated_guard_lem e (omega arith),
          eqb_swap (behavior_of s t) (transition_at m.behavior e).from,
        )
        (and-true _ ∙ sym (not_and (eqb (transition_at m.behavior e).from (behavior_of s t)) (guard_holds m.behavior s e)))))

    -- State = 3 and End = Now say what the model's test says
    ready : (r : Bool) → (eqb (code_of s t) execution && (end_test v t && r)) ≡ (can_complete s t && r)
    unfolding can_complete
    ready r =
        with_code (code_of s t) execution (λ b. b && r) (end_test v t) (eqb (spent_of s t) (length_of s t)) (end_known m.timing d s v h t l)
        ∙ sym (and_assoc (eqb (code_of s t) execution) (eqb (spent_of s t) (length_of s t)) r)

    transition_clauses_lem : (k : ℕ) → k < m.behavior.transitions → all_hold v (transition_rule m t k).clauses ≡
        (can_complete s t && ((eqb (transition_at m.behavior k).from (behavior_of s t) && guard_holds m.behavior s k) && not (any_below k (is_open m.behavior s t))))
    unfolding transition_rule is_open all_hold clause_holds
    transition_clauses_lem k b =
        let n : m.timing.threads ≤ max_threads = w.timing.threads in
        simp (
          equals_constant v (state_var t) (code_of s t) (h.code t (omega arith)) execution,
          equals_constant v (behavior_var t) (behavior_of s t) (h.behavior t (omega arith)) (transition_at m.behavior k).from,
          all_append v (guard_clauses m.behavior k) (per_transition m.behavior t k (earlier_clause m.behavior k)),
          guard_clauses_lem k b,
          earlier_clauses k (omega arith),
          or-false,
        )
        (ready _ ∙ ap (λ (x : Bool). can_complete s t && x)
        (at_state (behavior_of s t) (transition_at m.behavior k).from (λ f. guard_holds m.behavior s k && not (any_below k (opens_in m.behavior s t f)))
        ∙ sym (and_assoc (eqb (transition_at m.behavior k).from (behavior_of s t)) (guard_holds m.behavior s k) _)))

    default_clauses_lem : all_hold v (default_rule m t).clauses ≡ (can_complete s t && not (any_below m.behavior.transitions (is_open m.behavior s t)))
    unfolding default_rule all_hold clause_holds
    default_clauses_lem =
        let n : m.timing.threads ≤ max_threads = w.timing.threads in
        simp (
          equals_constant v (state_var t) (code_of s t) (h.code t (omega arith)) execution,
          otherwise_clauses m.behavior.transitions (omega arith),
          or-false,
        )
        (ready (not (any_below m.behavior.transitions (is_open m.behavior s t))))

-- ---- the rules of a thread
-- the first that passes is below n where one does
first_any : (n : ℕ) (p : ℕ → Bool) → ltb (first_below n p) n ≡ any_below n p
unfolding first_below any_below
first_any zero p = refl
first_any (suc n) p = go (any_below n p) (p n) (first_any n p)
  where
    go : (g x : Bool) → ltb (first_below n p) n ≡ g → ltb (cond (ltb (first_below n p) n) (first_below n p) (cond x n (suc n))) (suc n) ≡ (g || x)
    go true x e = let l : first_below n p < n = ltb-true (first_below n p) n e in rw e (lt-ltb (first_below n p) (suc n) (omega arith))
    go false true e = rw e (lt-ltb n (suc n) (omega arith))
    go false false e = rw e (le-ltb (suc n) (suc n) (omega arith))

-- a rule that stands where a passes
where_own : (v : List Value) (a r y c : Bool) (f : Body) → all_hold v f.clauses ≡ (r && (y && c)) → enabled_bodies v (cond a (f ∷ []) []) ≡ cond (r && ((a && y) && c)) (f ∷ []) []
unfolding enabled_bodies
where_own v true r y c f e = rw e
where_own v false r y c f e = rw (and-false r)

-- r: the thread may complete; g: an earlier transition is open, first k; x: this one, n
one_more_lem : (r g x : Bool) (f : ℕ → Body) (k n : ℕ) →
    cond (r && g) (f k ∷ []) [] ++ cond (r && (x && not g)) (f n ∷ []) [] ≡ cond (r && (g || x)) (f (cond g k (cond x n (suc n))) ∷ []) []
one_more_lem false g x f k n = refl
one_more_lem true true true f k n = refl
one_more_lem true true false f k n = refl
one_more_lem true false true f k n = refl
one_more_lem true false false f k n = refl

-- and the default rule last
or_default : (r g : Bool) (a b : Body) → cond (r && g) (a ∷ []) [] ++ cond (r && not g) (b ∷ []) [] ≡ cond r (cond g a b ∷ []) []
or_default false g a b = refl
or_default true true a b = refl
or_default true false a b = refl

-- the rule of the first open transition, or the default rule
abbrev pub complete_rule : Model → State → ℕ → Body
complete_rule m s t =
    cond (ltb (first_open m.behavior s t) m.behavior.transitions) (transition_rule m t (first_open m.behavior s t)) (default_rule m t)

module _ (m : Model) (d : Dispatched) (s : State) (v : List Value) (w : WellFormed m) (h : Match m.timing d s v) (t : ℕ) (l : t < m.timing.threads) where
  own_rule : (k : ℕ) → k < m.behavior.transitions →
      enabled_bodies v (cond (eqb (transition_at m.behavior k).thread t) (transition_rule m t k ∷ []) [])
      ≡ cond (can_complete s t && (is_open m.behavior s t k && not (any_below k (is_open m.behavior s t)))) (transition_rule m t k ∷ []) []
  unfolding is_open
  own_rule k b =
      where_own v (eqb (transition_at m.behavior k).thread t) (can_complete s t) (eqb (transition_at m.behavior k).from (behavior_of s t) && guard_holds m.behavior s k)
      (not (any_below k (is_open m.behavior s t))) (transition_rule m t k) (transition_clauses_lem m d s v w h t l k b)

  rules_below : (n : ℕ) → n ≤ m.behavior.transitions →
      enabled_bodies v (per_transition m.behavior t n (λ k. transition_rule m t k ∷ []))
      ≡ cond (can_complete s t && any_below n (is_open m.behavior s t)) (transition_rule m t (first_below n (is_open m.behavior s t)) ∷ []) []
  unfolding join_below any_below first_below enabled_bodies
  rules_below zero b = rw (and-false (can_complete s t))
  rules_below (suc n) b =
      rw (
        enabled_append v (per_transition m.behavior t n (λ k. transition_rule m t k ∷ [])) (cond (eqb (transition_at m.behavior n).thread t) (transition_rule m t n ∷ []) []),
        rules_below n (omega arith),
        own_rule n (omega arith),
        first_any n (is_open m.behavior s t),
      )
      (one_more_lem (can_complete s t) (any_below n (is_open m.behavior s t)) (is_open m.behavior s t n) (transition_rule m t) (first_below n (is_open m.behavior s t)) n)

  pub complete_enabled : enabled_bodies v (complete_rules m t) ≡ cond (can_complete s t) (complete_rule m s t ∷ []) []
  unfolding complete_rules first_open
  complete_enabled =
      rw (
        enabled_append v (per_transition m.behavior t m.behavior.transitions (λ k. transition_rule m t k ∷ [])) (default_rule m t ∷ []),
        rules_below m.behavior.transitions (omega arith),
        single_enabled v (default_rule m t) _ (default_clauses_lem m d s v w h t l),
        first_any m.behavior.transitions (is_open m.behavior s t),
      )
      (or_default (can_complete s t) (any_below m.behavior.transitions (is_open m.behavior s t)) _ (default_rule m t))
