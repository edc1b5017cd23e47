-- The enabled rules of each event kind and id, in the table made of a model: one where the model's test passes, else none.
use Rattle.std.specs.Prelude.{◌≡◌, refl, Bool, true, false, cond, ◌&&◌, List, [], ◌∷◌, ℕ, ◌<◌, ltb}
use Rattle.std.proofs.Common.{◌∙◌, ltb-true}
use Rattle.std.proofs.Math.Bool.{and-true}
use Rattle.numbers.specs.declared.Value.{Value}
use Rattle.records.specs.Events.{activate_kind, deactivate_kind, dispatch_kind, start_kind, complete_kind, deadline_kind, miss_kind, request_kind, enter_kind, leave_kind}
use Rattle.model_format.specs.declared.Model.{Model}
use Rattle.model_format.specs.WellFormed.{WellFormed}
use Rattle.model_semantics.specs.declared.State.{State}
use Rattle.model_semantics.specs.State.{is_active, code_of}
use Rattle.model_semantics.specs.Effects.{rest_code}
use Rattle.model_semantics.specs.Tests.{can_activate, can_deactivate, can_dispatch, can_complete, can_meet_deadline, can_miss, can_enter, can_leave}
use Rattle.table_semantics.specs.Rules.{enabled_rules}
use Rattle.translation.specs.Shown.{bit}
use Rattle.translation.specs.Parts.{Body, stamped}
use Rattle.translation.specs.Rules.{activate_rules, deactivate_rule, dispatch_rules, start_rules, deadline_rule, enter_rules, leave_rules, groups_of, rules_of}
use Rattle.simulation.specs.Compared.{Dispatched}
use Rattle.simulation.specs.Match.{Match}
use Rattle.simulation.specs.Groups.{enabled_bodies, bodies_for, enabled_rules_lem, bodies_activate, bodies_deactivate, bodies_dispatch, bodies_start, bodies_complete, bodies_deadline, bodies_miss, bodies_request, bodies_enter, bodies_leave}
use Rattle.simulation.specs.GuardSimple.{request_rule, activate_enabled, deactivate_enabled, request_enabled, enter_enabled, leave_enabled}
use Rattle.simulation.specs.GuardDispatch.{dispatch_enabled}
use Rattle.simulation.specs.GuardStart.{may_start, start_enabled_lem}
use Rattle.simulation.specs.GuardComplete.{complete_rule, complete_enabled}
use Rattle.simulation.specs.GuardDeadline.{miss_rule, deadline_enabled, miss_enabled}

-- the bodies l of item i, which is there where i < n; of them r is enabled where c passes
of_item : (m : Model) (v : List Value) (k i n : ℕ) (c : Bool) (l r : List Body) → bodies_for k i (groups_of m) ≡ cond (ltb i n) l [] → (i < n → enabled_bodies v l ≡ cond c r []) →
    enabled_rules v k i (rules_of m) ≡ stamped k i (cond (ltb i n && c) r [])
unfolding enabled_bodies
of_item m v k i n c l r e h = enabled_rules_lem v k i (groups_of m) ∙ rw e (go (ltb i n) refl)
  where
    go : (b : Bool) → ltb i n ≡ b → stamped k i (enabled_bodies v (cond b l [])) ≡ stamped k i (cond (b && c) r [])
    go true e = rw (h (ltb-true i n e))
    go false e = refl

module _ (m : Model) (d : Dispatched) (s : State) (v : List Value) (w : WellFormed m) (h : Match m.timing d s v) (i : ℕ) where
  pub activate_rules_lem : enabled_rules v activate_kind i (rules_of m) ≡ stamped activate_kind i (cond (ltb i m.timing.threads && can_activate s i) (activate_rules m.timing i) [])
  activate_rules_lem = of_item m v activate_kind i _ _ _ _ (bodies_activate m i) (activate_enabled m.timing d s v w.timing h i)

  pub deactivate_rules_lem : enabled_rules v deactivate_kind i (rules_of m) ≡ stamped deactivate_kind i (cond (ltb i m.timing.threads && can_deactivate m.timing s i) (deactivate_rule m.timing i (code_of s i) ∷ []) [])
  deactivate_rules_lem = of_item m v deactivate_kind i _ _ _ _ (bodies_deactivate m i) (deactivate_enabled m.timing d s v w.timing h i)

  pub dispatch_rules_lem : enabled_rules v dispatch_kind i (rules_of m) ≡ stamped dispatch_kind i (cond (ltb i m.timing.threads && can_dispatch m.timing s i) (dispatch_rules m.timing i) [])
  dispatch_rules_lem = of_item m v dispatch_kind i _ _ _ _ (bodies_dispatch m i) (dispatch_enabled m.timing d s v w.timing h i)

  pub start_rules_lem : enabled_rules v start_kind i (rules_of m) ≡ stamped start_kind i (cond (ltb i m.timing.threads && may_start m.timing s i) (start_rules m.timing i) [])
  start_rules_lem = of_item m v start_kind i _ _ _ _ (bodies_start m i) (start_enabled_lem m.timing d s v w.timing h i)

  pub complete_rules_lem : enabled_rules v complete_kind i (rules_of m) ≡ stamped complete_kind i (cond (ltb i m.timing.threads && can_complete s i) (complete_rule m s i ∷ []) [])
  complete_rules_lem = of_item m v complete_kind i _ _ _ _ (bodies_complete m i) (complete_enabled m d s v w h i)

  pub deadline_rules_lem : enabled_rules v deadline_kind i (rules_of m) ≡ stamped deadline_kind i (cond (ltb i m.timing.threads && can_meet_deadline m.timing s i) (deadline_rule m.timing i (bit (is_active s i)) (rest_code s i) ∷ []) [])
  deadline_rules_lem = of_item m v deadline_kind i _ _ _ _ (bodies_deadline m i) (deadline_enabled m.timing d s v w.timing h i)

  pub miss_rules_lem : enabled_rules v miss_kind i (rules_of m) ≡ stamped miss_kind i (cond (ltb i m.timing.threads && can_miss m.timing s i) (miss_rule m.timing s i ∷ []) [])
  miss_rules_lem = of_item m v miss_kind i _ _ _ _ (bodies_miss m i) (miss_enabled m.timing d s v w.timing h i)

  pub request_rules_lem : enabled_rules v request_kind i (rules_of m) ≡ stamped request_kind i (cond (ltb i m.timing.switches) (request_rule m.timing s i ∷ []) [])
  request_rules_lem = of_item m v request_kind i _ true _ _ (bodies_request m i) (λ l. request_enabled m.timing d s v w.timing h i) ∙ rw and-true

  pub enter_rules_lem : enabled_rules v enter_kind i (rules_of m) ≡ stamped enter_kind i (cond (ltb i m.timing.switches && can_enter m.timing s i) (enter_rules m.timing i) [])
  enter_rules_lem = of_item m v enter_kind i _ _ _ _ (bodies_enter m i) (λ l. enter_enabled m.timing d s v w.timing h i)

  pub leave_rules_lem : enabled_rules v leave_kind i (rules_of m) ≡ stamped leave_kind i (cond (ltb i m.timing.switches && can_leave m.timing s i) (leave_rules m.timing i) [])
  leave_rules_lem = of_item m v leave_kind i _ _ _ _ (bodies_leave m i) (λ l. leave_enabled m.timing d s v w.timing h i)
