-- Guards of ACTIVATE, DEACTIVATE, REQUEST, ENTER and LEAVE: the rules of an item that are enabled, by the model's tests.
use Rattle.std.specs.Prelude.{◌≡◌, Bool, ◌&&◌, ◌||◌, ℕ, ◌<◌, ◌≤◌, eqb}
use Rattle.std.proofs.Math.Path.{refl}
use Rattle.std.proofs.Common.{◌∙◌, ap}
use Rattle.std.proofs.Math.Bool.{true, false, cond, not, and-true, and_comm, or-false, or_assoc}
use mathlib.Core.List.{List, [], ◌∷◌}
use native.Mathlib.Omega.{arith}
use Rattle.numbers.specs.declared.Value.{Value}
use Rattle.model_format.specs.declared.Timing.{Timing}
use Rattle.model_format.specs.Model.{max_threads, thread_at, switch_at, is_critical}
use Rattle.model_format.specs.WellFormed.{GoodTiming}
use Rattle.model_semantics.specs.declared.State.{State}
use Rattle.model_semantics.specs.State.{is_active, code_of, now_of}
use Rattle.model_semantics.specs.Tests.{can_activate, can_deactivate, can_enter, can_leave, waiting_mode, waiting_dispatch, waiting_execution, execution, completed, is_unfinished, has_job}
use Rattle.table_format.specs.Variables.{now_var, mode_var, phase_var, pending_var, entered_var, active_var, state_var}
use Rattle.table_format.specs.RuleKinds.{is_one_of}
use Rattle.table_format.specs.All.{All}
use Rattle.table_semantics.specs.Rules.{clause_holds, all_hold}
use Rattle.translation.specs.Shown.{bit}
use Rattle.translation.specs.Parts.{Body}
use Rattle.translation.specs.Rules.{activate_rules, deactivate_rule, stop_rules, deactivate_rules, request_granted, request_ignored, request_rules, enter_rules, leave_rules}
use Rattle.simulation.specs.Compared.{Dispatched}
use Rattle.simulation.specs.Match.{Match}
use Rattle.simulation.specs.Groups.{enabled_bodies, per_code, Differ, by_state}
use Rattle.simulation.specs.Guards.{bit_zero, bit_one, equals_constant, differs_constant, differs_variable, multiple_of_constant}

-- "With Phase 0 and Mode the from-mode"
abbrev pub takes_request : Timing → State → ℕ → Bool
takes_request m s q = eqb s.clock.phase 0 && eqb s.clock.mode (switch_at m q).from

abbrev pub request_rule : Timing → State → ℕ → Body
request_rule m s q = cond (takes_request m s q) (request_granted q (switch_at m q).from) (request_ignored (switch_at m q).from)

module _ (m : Timing) (d : Dispatched) (s : State) (v : List Value) (g : GoodTiming m) (h : Match m d s v) where
  module _ (t : ℕ) (l : t < m.threads) where
    pub activate_enabled : enabled_bodies v (activate_rules m t) ≡ cond (can_activate s t) (activate_rules m t) []
    unfolding activate_rules can_activate enabled_bodies all_hold clause_holds
    activate_enabled =
        let k : m.threads ≤ max_threads = g.threads in
        let b : t < max_threads = omega arith in
        simp (
          equals_constant v (active_var t) (bit (is_active s t)) (h.active t b) 1,
          equals_constant v (state_var t) (code_of s t) (h.code t b) waiting_mode,
          bit_one (is_active s t),
          or-false,
          and-true,
        )

    -- the rules of DEACTIVATE differ by State
    leaving_enabled : (c : ℕ) → enabled_bodies v (deactivate_rule m t c ∷ []) ≡ cond (eqb (code_of s t) c && not (is_active s t)) (deactivate_rule m t c ∷ []) []
    unfolding enabled_bodies all_hold clause_holds
    leaving_enabled c =
        let k : m.threads ≤ max_threads = g.threads in
        let b : t < max_threads = omega arith in
        simp (
          equals_constant v (active_var t) (bit (is_active s t)) (h.active t b) 0,
          equals_constant v (state_var t) (code_of s t) (h.code t b) c,
          bit_zero (is_active s t),
          or-false,
          and-true,
        )
        (ap (λ (x : Bool). cond x (deactivate_rule m t c ∷ []) []) (and_comm (not (is_active s t)) (eqb (code_of s t) c)))

    pub deactivate_enabled : enabled_bodies v (deactivate_rules m t) ≡ cond (can_deactivate m s t) (deactivate_rule m t (code_of s t) ∷ []) []
    unfolding deactivate_rules can_deactivate has_job is_unfinished per_code Differ is_one_of
    deactivate_enabled = go (is_critical (thread_at m t))
      where
        each : (l : List ℕ) → All (λ (c : ℕ). enabled_bodies v (deactivate_rule m t c ∷ []) ≡ cond (eqb (code_of s t) c && not (is_active s t)) (deactivate_rule m t c ∷ []) []) l
        each [] = tt
        each (c ∷ l) = (leaving_enabled c, each l)

        -- of the codes l just the one that the thread has
        leaving : (l : List ℕ) (b : Bool) → Differ l → is_one_of l (code_of s t) ≡ b → enabled_bodies v (per_code l (λ c. deactivate_rule m t c ∷ [])) ≡
            cond (not (is_active s t) && b) (deactivate_rule m t (code_of s t) ∷ []) []
        leaving l b differ e =
            by_state v (code_of s t) l (λ c. deactivate_rule m t c ∷ []) (deactivate_rule m t) (λ c. not (is_active s t)) differ (each l)
            ∙ ap (λ (x : Bool). cond x (deactivate_rule m t (code_of s t) ∷ []) []) (and_comm (is_one_of l (code_of s t)) (not (is_active s t)) ∙ ap (λ (x : Bool). not (is_active s t) && x) e)

        in_order_lem : (a b c e : Bool) → (a || (b || (c || (e || false)))) ≡ (a || ((b || c) || e))
        in_order_lem a b c e = rw (or-false e, or_assoc b c e)

        go : (critical : Bool) → enabled_bodies v (deactivate_rule m t waiting_dispatch ∷ cond critical [] (stop_rules m t)) ≡
            cond (not (is_active s t) && (eqb (code_of s t) waiting_dispatch || (not critical && has_job (code_of s t)))) (deactivate_rule m t (code_of s t) ∷ []) []
        go true = leaving (waiting_dispatch ∷ []) _ (refl, tt) refl
        go false =
            leaving (waiting_dispatch ∷ waiting_execution ∷ execution ∷ completed ∷ []) _ (refl, (refl, (refl, (refl, tt))))
            (in_order_lem (eqb (code_of s t) waiting_dispatch) (eqb (code_of s t) waiting_execution) (eqb (code_of s t) execution) (eqb (code_of s t) completed))

  -- REQUEST always has one enabled rule
  pub request_enabled : (q : ℕ) → enabled_bodies v (request_rules m q) ≡ request_rule m s q ∷ []
  unfolding request_rules enabled_bodies all_hold clause_holds
  request_enabled q =
      simp (
        equals_constant v phase_var s.clock.phase h.phase 0,
        equals_constant v mode_var s.clock.mode h.mode (switch_at m q).from,
        differs_constant v phase_var s.clock.phase h.phase 0,
        differs_constant v mode_var s.clock.mode h.mode (switch_at m q).from,
        or-false,
        and-true,
      ) (one_of (eqb s.clock.phase 0) (eqb s.clock.mode (switch_at m q).from) (request_granted q (switch_at m q).from) (request_ignored (switch_at m q).from))
    where
      one_of : (a b : Bool) (x y : Body) →
          cond (a && b) (x ∷ cond (not a || not b) (y ∷ []) []) (cond (not a || not b) (y ∷ []) []) ≡ cond (a && b) x y ∷ []
      one_of true true x y = refl
      one_of true false x y = refl
      one_of false b x y = refl

  pub enter_enabled : (q : ℕ) → enabled_bodies v (enter_rules m q) ≡ cond (can_enter m s q) (enter_rules m q) []
  unfolding enter_rules can_enter enabled_bodies all_hold clause_holds
  enter_enabled q =
      simp (
        equals_constant v phase_var s.clock.phase h.phase 1,
        equals_constant v pending_var s.clock.pending h.pending q,
        multiple_of_constant v now_var (now_of s) h.now (switch_at m q).h1.0,
        or-false,
        and-true,
      )

  pub leave_enabled : (q : ℕ) → enabled_bodies v (leave_rules m q) ≡ cond (can_leave m s q) (leave_rules m q) []
  unfolding leave_rules can_leave enabled_bodies all_hold clause_holds
  leave_enabled q =
      simp (
        equals_constant v phase_var s.clock.phase h.phase 2,
        equals_constant v pending_var s.clock.pending h.pending q,
        differs_variable v now_var (now_of s) h.now entered_var s.clock.entered.0 h.entered,
        multiple_of_constant v now_var (now_of s) h.now (switch_at m q).h2.0,
        or-false,
        and-true,
      )
