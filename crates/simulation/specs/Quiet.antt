-- "Any enabled rule not of kind 08 stops it": the table that is made of a model is busy just where the model is.
use Rattle.std.specs.Prelude.{◌≡◌, refl, Bool, true, cond, ◌||◌, List, [], ◌∷◌, ℕ, zero, suc, ◌<◌, ◌≤◌}
use Rattle.std.proofs.Common.{◌∙◌}
use Rattle.std.proofs.Math.Bool.{false, or_assoc, or-true, or-false}
use native.Mathlib.Omega.{arith}
use Rattle.std.proofs.Math.Dec.{eqb}
use borrow.Author.Tests.{eq-eqb, eqb-false}
use Rattle.numbers.specs.declared.Value.{Value}
use Rattle.numbers.specs.Lists.{any_below}
use Rattle.numbers.specs.ListLaws.{none_below}
use Rattle.model_format.specs.declared.Timing.{Timing}
use Rattle.model_format.specs.declared.Model.{Model}
use Rattle.model_format.specs.Model.{thread_at}
use Rattle.model_format.specs.Faultless.{both_false}
use Rattle.model_format.specs.WellFormed.{WellFormed}
use Rattle.model_semantics.specs.declared.State.{State}
use Rattle.model_semantics.specs.State.{code_of, length_of, spent_of}
use Rattle.model_semantics.specs.Tests.{execution, can_activate, can_deactivate, can_dispatch, can_start, can_complete, can_meet_deadline, can_miss, can_enter, can_leave, thread_busy, switch_busy, is_busy}
use Rattle.table_format.specs.RuleKinds.{is_one_of}
use Rattle.table_semantics.specs.Machine as table-machine
use Rattle.translation.specs.Parts.{Body}
use Rattle.translation.specs.Rules.{activate_rules, deactivate_rules, dispatch_rules, start_rules, complete_rules, deadline_rules, miss_rules, enter_rules, leave_rules, items_of, timing_rules, rules_for, groups_for, groups_of, rules_of}
use Rattle.simulation.specs.Compared.{Dispatched}
use Rattle.simulation.specs.Match.{Match}
use Rattle.simulation.specs.Groups.{enabled_bodies, any_enabled, groups_busy, busy_groups, any_of_one}
use Rattle.simulation.specs.GuardSimple.{activate_enabled, deactivate_enabled, enter_enabled, leave_enabled}
use Rattle.simulation.specs.GuardDispatch.{dispatch_enabled}
use Rattle.simulation.specs.GuardStart.{may_start, start_shortest, start_enabled_lem}
use Rattle.simulation.specs.GuardComplete.{complete_enabled}
use Rattle.simulation.specs.GuardDeadline.{deadline_enabled, miss_enabled}

-- ---- some number below n
any_same : (n : ℕ) (p q : ℕ → Bool) → ((i : ℕ) → i < n → p i ≡ q i) → any_below n p ≡ any_below n q
unfolding any_below
any_same zero p q e = refl
any_same (suc n) p q e = rw (any_same n p q (λ i l. e i (omega arith)), e n (omega arith))

any_or : (n : ℕ) (p q : ℕ → Bool) → any_below n (λ i. p i || q i) ≡ (any_below n p || any_below n q)
unfolding any_below
any_or zero p q = refl
any_or (suc n) p q = rw (any_or n p q) (go (any_below n p) (any_below n q) (p n) (q n))
  where
    go : (a b x y : Bool) → ((a || b) || (x || y)) ≡ ((a || x) || (b || y))
    go true b x y = refl
    go false true true y = refl
    go false true false y = refl
    go false false x y = refl

-- ---- the model's own test, kind by kind
module _ (m : Timing) (s : State) where
  threads_busy : (n : ℕ) → any_below n (thread_busy m s) ≡
      (any_below n (can_activate s) || (any_below n (can_deactivate m s) || (any_below n (can_dispatch m s) || (any_below n (λ t. can_start m s t (thread_at m t).bcet.0) ||
      (any_below n (can_complete s) || (any_below n (can_meet_deadline m s) || any_below n (can_miss m s)))))))
  unfolding thread_busy
  threads_busy n = simp any_or

  switches_busy : (n : ℕ) → any_below n (switch_busy m s) ≡ (any_below n (can_enter m s) || any_below n (can_leave m s))
  unfolding switch_busy
  switches_busy n = any_or n (can_enter m s) (can_leave m s)

-- ---- and the table's
module _ (m : Model) (d : Dispatched) (s : State) (v : List Value) (w : WellFormed m) (h : Match m.timing d s v) where
  -- some item's rules are enabled where its test passes
  some_enabled : (n : ℕ) (f : ℕ → List Body) (can : ℕ → Bool) (b : ℕ → Body) → ((i : ℕ) → i < n → enabled_bodies v (f i) ≡ cond (can i) (b i ∷ []) []) →
      any_below n (λ i. any_enabled v (f i)) ≡ any_below n can
  some_enabled n f can b e = any_same n _ can (λ i l. any_of_one v (f i) (can i) (b i) (e i l))

  groups_busy_lem : groups_busy v (groups_of m) ≡ is_busy m.timing s
  unfolding groups_busy groups_for items_of timing_rules rules_for is_one_of is_busy activate_rules dispatch_rules start_rules enter_rules leave_rules
  groups_busy_lem =
      let x = m.timing in
      let n = m.timing.threads in
      let q = m.timing.switches in
      let g = w.timing in
      rw (
        threads_busy x s n,
        switches_busy x s q,
        any_same n (λ t. can_start x s t (thread_at x t).bcet.0) (may_start x s) (λ t l. start_shortest x s t g l),
        some_enabled n (activate_rules x) (can_activate s) _ (activate_enabled x d s v g h),
        some_enabled n (deactivate_rules x) (can_deactivate x s) _ (deactivate_enabled x d s v g h),
        some_enabled n (dispatch_rules x) (can_dispatch x s) _ (dispatch_enabled x d s v g h),
        some_enabled n (start_rules x) (may_start x s) _ (start_enabled_lem x d s v g h),
        some_enabled n (complete_rules m) (can_complete s) _ (complete_enabled m d s v w h),
        some_enabled n (deadline_rules x) (can_meet_deadline x s) _ (deadline_enabled x d s v g h),
        some_enabled n (miss_rules x) (can_miss x s) _ (miss_enabled x d s v g h),
        some_enabled q (enter_rules x) (can_enter x s) _ (λ i l. enter_enabled x d s v g h i),
        some_enabled q (leave_rules x) (can_leave x s) _ (λ i l. leave_enabled x d s v g h i),
      )
      (simp (or_assoc, or-false))

  pub busy_same : table-machine.is_busy v (rules_of m) ≡ is_busy m.timing s
  busy_same = busy_groups v (groups_of m) ∙ groups_busy_lem

-- ---- what quiet states have
fifth : (a b c e f r : Bool) → (a || (b || (c || (e || (f || r))))) ≡ false → f ≡ false
fifth a b c e false r q = refl
fifth a b c e true r q = simp or-true at q

module _ (m : Timing) (d : Dispatched) (s : State) (v : List Value) (h : Match m d s v) (e : is_busy m s ≡ false) where
  -- no job stands at its end
  pub quiet_complete : (t : ℕ) → t < m.threads → can_complete s t ≡ false
  unfolding is_busy thread_busy
  quiet_complete t l =
      fifth (can_activate s t) (can_deactivate m s t) (can_dispatch m s t) (can_start m s t (thread_at m t).bcet.0) (can_complete s t) (can_meet_deadline m s t || can_miss m s t)
      (none_below m.threads (thread_busy m s) (both_false (any_below m.threads (thread_busy m s)) (any_below m.switches (switch_busy m s)) e).0 t l)

  pub quiet_unspent : (t : ℕ) → t < m.threads → code_of s t ≡ execution → spent_of s t < length_of s t
  unfolding can_complete
  quiet_unspent t l c =
      let b : spent_of s t ≤ length_of s t = h.reached.ran t c in
      let a : eqb (spent_of s t) (length_of s t) ≡ false = rw (eq-eqb (code_of s t) execution c) at (quiet_complete t l) in
      let n : spent_of s t ≡ length_of s t → ⊥ = eqb-false (spent_of s t) (length_of s t) a in
      omega arith
